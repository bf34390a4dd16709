-- No token `struct` stands in an expression or in a statement, where each string of their patterns reads.
use Rattle.std.proofs.Common.{◌≡◌, inl, inr, Bool, true, false, List, [], ◌∷◌, ◌++◌, Some, None, refl, sym, ap, subst, ◌∙◌}
use Rattle.std.specs.Prelude.{map, flat_map}
use Rattle.std.specs.List.{list_all, AllZip}
use Rattle.std.proofs.lemmas.List.Folds.{list_all-append}
use Rattle.sk_tree.specs.declared.token.Token.{Token}
use Rattle.sk_tree.specs.declared.token.Kind.{Kind}
use Rattle.sk_tree.specs.declared.token.Kind.TheVariants as kind
use Rattle.sk_tree.specs.declared.token.Mark.{Mark}
use Rattle.sk_tree.specs.declared.token.Mark.TheVariants as mark
use Rattle.sk_tree.specs.declared.token.Key.TheVariants as key
use Rattle.sk_tree.specs.declared.pattern.Pattern.{Pattern}
use Rattle.sk_tree.specs.declared.pattern.Pattern.TheOpen as P
use Rattle.sk_tree.specs.declared.pattern.Pattern.TheFolds.{map-Pattern, fold-roll-Pattern}
use Rattle.sk_tree.specs.declared.expr.Expr.{Expr}
use Rattle.sk_tree.specs.declared.expr.EForm.{EForm}
use Rattle.sk_tree.specs.declared.expr.NewField.{NewField}
use Rattle.sk_tree.specs.declared.expr.EForm.TheOpen as E
use Rattle.sk_tree.specs.declared.expr.EForm.TheViews.{roll-EForm}
use Rattle.sk_tree.specs.declared.expr.EForm.TheFolds.{map-EForm, fold-EForm, fold-NewField, fold-roll-EForm, fold-roll-Expr, fold-roll-NewField}
use Rattle.sk_tree.specs.Phrase.{Phrase, Never, Nothing, Given, One, Sign, ◌▸◌, Each, Behind, Between}
use Rattle.sk_tree.specs.Strings.{Strings, pairs, rows, pattern_strings, strings_of}
use Rattle.sk_tree.specs.Patterns.{Patterns, join, eform_patterns, expr_patterns}
use Rattle.sk_tree.specs.Spelt.{Spans, PatternRole, AsChoice, AsSequence, AsPart, AsPlain, SpeltPart, Saying, SpeltString, ReadsString, HasTooMany, HasBad, Holds, SpeltPattern, SpeltExpr}
use Rattle.sk_tree.proofs.Layers.{PatternLayer, pattern_parts, pattern_law, PartLayer, part_spelt, ExprLayer, expr_parts, expr_law, FormBy, ExprBy, FieldBy, LayerBy, form_by, expr_by, field_by}
use Rattle.sk_types_laws.proofs.Ats.{both_true, both}

abbrev pub is_other : Kind → Bool
is_other (kind.Key key.Struct) = false
is_other _ = true

-- whether none of the tokens is `struct`
abbrev pub others : List Token → Bool
others ts = list_all (λ (t : Token). is_other t.kind) ts

pub append_others : (xs ys : List Token) → others xs ≡ true → others ys ≡ true → others (xs ++ ys) ≡ true
append_others xs ys h k = list_all-append (λ (t : Token). is_other t.kind) xs ys ∙ both _ _ h k

split_others : (xs ys : List Token) → others (xs ++ ys) ≡ true → (others xs ≡ true) × (others ys ≡ true)
split_others xs ys h = both_true _ _ (sym (list_all-append (λ (t : Token). is_other t.kind) xs ys) ∙ h)

-- none of the tokens that say it is `struct`
pub record Free (P : Phrase) : Type 0 where
  pub free : (ts : List Token) → P ts → others ts ≡ true

pub then : {P Q : Phrase} → Free P → Free Q → Free (P ▸ Q)
then f g = record { free = λ ts h. ap others h.2 ∙ append_others h.0 h.1 (f.free h.0 h.3) (g.free h.1 h.4) }

pub one : (k : Kind) → is_other k ≡ true → Free (One k)
one k e = record { free = λ ts h. ap others h.1 ∙ both (is_other k) true e refl }

pub sign : (m : Mark) → Free (Sign m)
sign m = one (kind.Mark m) refl

pub word : (x : List _) → Free (One (kind.Word x))
word x = one (kind.Word x) refl

pub given : {T : Type 0} {P : Phrase} → Free P → Free (Given T P)
given f = record { free = λ ts h. f.free ts h.1 }

pub spans : {P : Phrase} (s : _) → Free P → Free (Spans s P)
spans s f = record { free = λ ts h. f.free ts h.0 }

pub nothing : Free Nothing
nothing = record { free = λ ts h. ap others h }

pub same : {P Q : Phrase} → P ≡ Q → Free P → Free Q
same {P} {Q} e f = subst (λ (R : Phrase). Free R) e f

-- Patterns of which each fits

module _ (Fits : Pattern → Type 0) where
  abbrev pub AllFit : Patterns → Type 0
  AllFit [] = Unit {0}
  AllFit (p ∷ ps) = Fits p × AllFit ps

  pub parts_fit : (ps qs : Patterns) → AllFit (ps ++ qs) → AllFit ps × AllFit qs
  parts_fit [] qs h = (tt, h)
  parts_fit (p ∷ ps) qs h = let r = parts_fit ps qs h.1 in ((h.0, r.0), r.1)

-- Expressions, of which each pattern that fits says no `struct`

module _ (Fits : Pattern → Type 0) (says : Saying) (say : (g : Pattern) (es : List Expr) → Fits g → Free (says g es)) where
  abbrev form_held : EForm → Patterns
  form_held = fold-EForm Patterns Patterns Patterns eform_patterns (λ x. x.form) (λ x. x.value)

  abbrev field_held : NewField → Patterns
  field_held = fold-NewField Patterns Patterns Patterns eform_patterns (λ x. x.form) (λ x. x.value)

  abbrev FormFree : EForm → Type 0
  FormFree f = AllFit Fits (form_held f) → Free (FormBy says f)

  abbrev ExprFree : Expr → Type 0
  ExprFree e = AllFit Fits (expr_patterns e) → Free (ExprBy says e)

  abbrev FieldFree : NewField → Type 0
  FieldFree n = AllFit Fits (field_held n) → Free (FieldBy says n)

  abbrev parts : ExprLayer FormFree ExprFree FieldFree → E.EForm-F EForm Expr NewField
  parts y = expr_parts FormFree ExprFree FieldFree y

  module _ {A : Type 0} (say_it : A → Phrase) (held : A → Patterns) where
    abbrev Known : Type 0
    Known = (a : A) × (AllFit Fits (held a) → Free (say_it a))

    abbrev those : List Known → List A
    those qs = map (λ (q : Known). q.0) qs

    behind_free : (m : Mark) (qs : List Known) → AllFit Fits (join (map held (those qs))) → Free (Behind (Sign m) say_it (those qs))
    behind_free m [] c = nothing
    behind_free m (q ∷ qs) c = let r = parts_fit Fits (held q.0) (join (map held (those qs))) c in then (sign m) (then (q.1 r.0) (behind_free m qs r.1))

    between_free : (m : Mark) (qs : List Known) → AllFit Fits (join (map held (those qs))) → Free (Between (Sign m) say_it (those qs))
    between_free m [] c = nothing
    between_free m (q ∷ qs) c = let r = parts_fit Fits (held q.0) (join (map held (those qs))) c in then (q.1 r.0) (behind_free m qs r.1)

  layer : (y : ExprLayer FormFree ExprFree FieldFree) → AllFit Fits (eform_patterns (map-EForm EForm Expr NewField Patterns Patterns Patterns form_held expr_patterns field_held (parts y))) → Free (LayerBy says (parts y))
  layer (E.Number n) c = one (kind.Number n) refl
  layer E.True c = one (kind.Key key.True) refl
  layer E.False c = one (kind.Key key.False) refl
  layer E.Null c = one (kind.Key key.Null) refl
  layer (E.Word x) c = word x
  layer (E.Hole None) c = sign mark.Hole
  layer (E.Hole (Some n)) c = then (sign mark.Hole) (then (sign mark.OpenParen) (then (one (kind.Number n) refl) (sign mark.CloseParen)))
  layer (E.Pattern pattern strings) c = say pattern _ c.0
  layer (E.Paren e) c = then (sign mark.OpenParen) (then (e.1 c) (sign mark.CloseParen))
  layer (E.Call x args) c = then (word x) (then (sign mark.OpenParen) (then (between_free (ExprBy says) expr_patterns mark.Comma args c) (sign mark.CloseParen)))
  layer (E.New x fields) c = then (one (kind.Key key.New) refl) (then (word x) (then (sign mark.OpenParen) (then (between_free (FieldBy says) field_held mark.Comma fields c) (sign mark.CloseParen))))
  layer (E.Braces es) c = given (then (sign mark.OpenBrace) (then (between_free (ExprBy says) expr_patterns mark.Comma es c) (sign mark.CloseBrace)))
  layer (E.Member e x) c = then (e.1 c) (then (sign mark.Dot) (word x))
  layer (E.Index e i) c = let r = parts_fit Fits (expr_patterns e.0) (expr_patterns i.0) c in then (e.1 r.0) (then (sign mark.OpenBracket) (then (i.1 r.1) (sign mark.CloseBracket)))
  layer (E.Slice e i n) c =
      let r = parts_fit Fits (expr_patterns e.0 ++ expr_patterns i.0) (expr_patterns n.0) c in
      let q = parts_fit Fits (expr_patterns e.0) (expr_patterns i.0) r.0 in
      then (e.1 q.0) (then (sign mark.OpenBracket) (then (i.1 q.1) (then (sign mark.DoubleColon) (then (n.1 r.1) (sign mark.CloseBracket)))))
  layer (E.Unary m e) c = given (then (sign m) (e.1 c))
  layer (E.Binary m a b) c = let r = parts_fit Fits (expr_patterns a.0) (expr_patterns b.0) c in then (a.1 r.0) (then (sign m) (b.1 r.1))
  layer (E.Cond d a b) c =
      let r = parts_fit Fits (expr_patterns d.0 ++ expr_patterns a.0) (expr_patterns b.0) c in
      let q = parts_fit Fits (expr_patterns d.0) (expr_patterns a.0) r.0 in
      then (d.1 q.0) (then (sign mark.Question) (then (a.1 q.1) (then (sign mark.Colon) (b.1 r.1))))

  expr_others : (e : Expr) → ExprFree e
  expr_others = expr_law FormFree ExprFree FieldFree in_form in_expr in_field
    where
      in_form : (y : ExprLayer FormFree ExprFree FieldFree) → FormFree (roll-EForm (parts y))
      in_form y c = same (sym (form_by says (parts y))) (layer y (subst (AllFit Fits) (fold-roll-EForm Patterns Patterns Patterns eform_patterns (λ x. x.form) (λ x. x.value) (parts y)) c))

      in_expr : (e : Expr) → FormFree e.form → ExprFree e
      in_expr e h c = same (sym (expr_by says e)) (spans e.span (h (subst (AllFit Fits) (fold-roll-Expr Patterns Patterns Patterns eform_patterns (λ x. x.form) (λ x. x.value) (record { span = e.span; form = e.form })) c)))

      in_field : (n : NewField) → ExprFree n.value → FieldFree n
      in_field n h c = same (sym (field_by says n)) (then (word n.name) (then (sign mark.Assign) (h (subst (AllFit Fits) (fold-roll-NewField Patterns Patterns Patterns eform_patterns (λ x. x.form) (λ x. x.value) (record { name = n.name; value = n.value })) c))))

-- Strings: they hold no patterns

abbrev Any : Pattern → Type 0
Any p = Unit {0}

all_any : (ps : Patterns) → AllFit Any ps
all_any [] = tt
all_any (p ∷ ps) = (tt, all_any ps)

string_others : (e : Expr) (ts : List Token) → SpeltString e ts → others ts ≡ true
string_others e ts h = (expr_others Any (λ pattern strings. Never) (λ g es c. record { free = λ us n. absurd n }) e (all_any (expr_patterns e))).free ts h

abbrev all_others : Strings → Bool
all_others ss = list_all others ss

strings_others : (ss : Strings) (es : List Expr) → AllZip ReadsString ss es → all_others ss ≡ true
strings_others [] [] z = refl
strings_others [] (e ∷ es) z = absurd z
strings_others (s ∷ ss) [] z = absurd z
strings_others (s ∷ ss) (e ∷ es) z = both _ _ (string_others e s (z.0).spelt) (strings_others ss es z.1)

-- Each token of a pattern stands in one of its strings

abbrev is_some : Strings → Bool
is_some [] = false
is_some (s ∷ ss) = true

append_all : (ss us : Strings) → all_others (ss ++ us) ≡ true → (all_others ss ≡ true) × (all_others us ≡ true)
append_all ss us h = both_true _ _ (sym (list_all-append others ss us) ∙ h)

-- what is asked of the strings of a part whose tokens these are
record Shown (ss : Strings) (ts : List Token) : Type 0 where
  some : is_some ss ≡ true
  shown : all_others ss ≡ true → others ts ≡ true

fronts_shown : (front : List Token) (backs : Strings) → is_some backs ≡ true → all_others (map (λ back. front ++ back) backs) ≡ true → (others front ≡ true) × (all_others backs ≡ true)
fronts_shown front [] n h = cc
fronts_shown front (b ∷ []) n h = let j = split_others front b (both_true (others (front ++ b)) true h).0 in (j.0, both _ _ j.1 refl)
fronts_shown front (b ∷ c ∷ bs) n h =
    let k = both_true (others (front ++ b)) (all_others (map (λ back. front ++ back) (c ∷ bs))) h in
    let j = split_others front b k.0 in
    (j.0, both _ _ j.1 (fronts_shown front (c ∷ bs) refl k.1).1)

pairs_shown : (fronts backs : Strings) → is_some fronts ≡ true → is_some backs ≡ true → all_others (pairs fronts backs) ≡ true → (all_others fronts ≡ true) × (all_others backs ≡ true)
pairs_shown [] backs m n h = cc
pairs_shown (f ∷ []) backs m n h =
    let k = append_all (map (λ back. f ++ back) backs) [] h in
    let j = fronts_shown f backs n k.0 in
    (both _ _ j.0 refl, j.1)
pairs_shown (f ∷ g ∷ fs) backs m n h =
    let k = append_all (map (λ back. f ++ back) backs) (pairs (g ∷ fs) backs) h in
    let j = fronts_shown f backs n k.0 in
    (both _ _ j.0 (pairs_shown (g ∷ fs) backs refl n k.1).0, j.1)

some_append : (ss us : Strings) → is_some ss ≡ true → is_some (ss ++ us) ≡ true
some_append [] us h = cc
some_append (s ∷ ss) us h = refl

pairs_some : (fronts backs : Strings) → is_some fronts ≡ true → is_some backs ≡ true → is_some (pairs fronts backs) ≡ true
pairs_some [] backs m n = cc
pairs_some (f ∷ fs) [] m n = cc
pairs_some (f ∷ fs) (b ∷ bs) m n = refl

abbrev PartShown : Pattern → Type 0
PartShown p = (role : PatternRole) (ts : List Token) → SpeltPart p role ts → Shown (strings_of p) ts

abbrev Part : Type 0
Part = (p : Pattern) × PartShown p

abbrev firsts : List Part → List Pattern
firsts qs = map (λ (q : Part). q.0) qs

abbrev strings : List Part → List Strings
strings qs = map strings_of (firsts qs)

choices_behind : (m : Mark) (qs : List Part) (ts : List Token) → Behind (Sign m) (λ p. SpeltPart p AsSequence) (firsts qs) ts → all_others (flat_map (λ s. s) (strings qs)) ≡ true → others ts ≡ true
choices_behind m [] ts h k = ap others h
choices_behind m (q ∷ qs) ts (us, vs, is, bar, (ws, xs, also, first, more)) k =
    let j = append_all (strings_of q.0) (flat_map (λ s. s) (strings qs)) k in
    ap others is ∙ append_others us vs ((sign m).free us bar) (ap others also ∙ append_others ws xs ((q.1 AsSequence ws first).shown j.0) (choices_behind m qs xs more j.1))

parts_each : (qs : List Part) (ts : List Token) → Each (λ p. SpeltPart p AsPart) (firsts qs) ts → Shown (rows (strings qs)) ts
parts_each [] ts h = record { some = refl; shown = λ k. ap others h }
parts_each (q ∷ qs) ts (us, vs, is, first, more) =
    let a = q.1 AsPart us first in
    let b = parts_each qs vs more in
    record {
      some = pairs_some (strings_of q.0) (rows (strings qs)) a.some b.some;
      shown = λ k. let j = pairs_shown (strings_of q.0) (rows (strings qs)) a.some b.some k in ap others is ∙ append_others us vs (a.shown j.0) (b.shown j.1);
    }

pattern_layer : (y : PatternLayer PartShown) (role : PatternRole) (ts : List Token) → PartLayer (pattern_parts PartShown y) role ts → Shown (pattern_strings (map-Pattern Pattern Strings strings_of (pattern_parts PartShown y))) ts
pattern_layer (P.Choice []) AsChoice ts h = let no : false ≡ true = h.0 in absurd (cc)
pattern_layer (P.Choice (q ∷ qs)) AsChoice ts (some, (us, vs, is, first, more)) =
    let a = q.1 AsSequence us first in
    record {
      some = some_append (strings_of q.0) (flat_map (λ s. s) (strings qs)) a.some;
      shown = λ k. let j = append_all (strings_of q.0) (flat_map (λ s. s) (strings qs)) k in ap others is ∙ append_others us vs (a.shown j.0) (choices_behind mark.Bar qs vs more j.1);
    }
pattern_layer (P.Seq ps) AsSequence ts h = parts_each ps ts h.1
pattern_layer (P.Maybe p) AsPart ts (us, vs, is, first, asked) =
    let a = p.1 AsPlain us first in
    record { some = refl; shown = λ k. ap others is ∙ append_others us vs (a.shown (both_true true (all_others (strings_of p.0)) k).1) ((sign mark.Question).free vs asked) }
pattern_layer (P.Group p) role ts (plain, (us, vs, is, opening, (ws, xs, also, inner, closing))) =
    let a = p.1 AsChoice ws inner in
    record { some = a.some; shown = λ k. ap others is ∙ append_others us vs ((sign mark.OpenParen).free us opening) (ap others also ∙ append_others ws xs (a.shown k) ((sign mark.CloseParen).free xs closing)) }
pattern_layer (P.One t) role ts h = record { some = refl; shown = λ k. ap others h.1 ∙ (both_true (others (t ∷ [])) true k).0 }
pattern_layer _ _ ts h = absurd h

part_shown : (p : Pattern) → PartShown p
part_shown = pattern_law PartShown (λ y role ts h. subst (λ ss. Shown ss ts) (sym (fold-roll-Pattern Strings pattern_strings (pattern_parts PartShown y))) (pattern_layer y role ts (subst (λ (R : PatternRole → Phrase). R role ts) (part_spelt (pattern_parts PartShown y)) h)))

-- Patterns without a fault

pub record Clean (p : Pattern) : Type 0 where
  pub few : HasTooMany p → ⊥
  pub good : HasBad p → ⊥

pattern_others : (g : Pattern) (es : List Expr) → Clean g → Free (SpeltPattern g es)
pattern_others g es c = record { free = go }
  where
    held : (Holds g es) → all_others (strings_of g) ≡ true
    held (inl h) = strings_others (strings_of g) es h.each
    held (inr h) = elim h.0 [ inl many ↦ absurd (c.few many) | inr bad ↦ absurd (c.good bad) ]

    go : (ts : List Token) → SpeltPattern g es ts → others ts ≡ true
    go ts (holds, (us, vs, is, opening, (ws, xs, also, part, closing))) =
        ap others is ∙ append_others us vs ((sign mark.OpenPattern).free us opening) (ap others also ∙ append_others ws xs ((part_shown g AsChoice ws part).shown (held holds)) ((sign mark.ClosePattern).free xs closing))

pub expr_free : (e : Expr) → AllFit Clean (expr_patterns e) → Free (SpeltExpr e)
expr_free e c = expr_others Clean SpeltPattern pattern_others e c
