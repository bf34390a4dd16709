-- The tokens of a string may stand in one, so its tree is spelt without the marks of patterns and without
-- parentheses.
use Rattle.std.proofs.Common.{◌≡◌, suc, Bool, true, false, List, [], ◌∷◌, ◌++◌, length, Some, None, refl, sym, ap, subst, ◌∙◌}
use Rattle.std.specs.Prelude.{map, nat_le, flat_map}
use Rattle.std.specs.List.{list_all, AllZip}
use Rattle.std.proofs.lemmas.List.Folds.{list_all-append}
use Rattle.std.proofs.lemmas.Bool.{le-leb}
use Rattle.sk_base.specs.declared.span.Span.{Span}
use Rattle.sk_tree.specs.declared.token.Token.{Token}
use Rattle.sk_tree.specs.declared.token.Mark.{Mark}
use Rattle.sk_tree.specs.declared.token.Mark.TheVariants as mark
use Rattle.sk_tree.specs.declared.pattern.Pattern.{Pattern}
use Rattle.sk_tree.specs.declared.pattern.Pattern.TheOpen as P
use Rattle.sk_tree.specs.declared.pattern.Pattern.TheViews.{roll-Pattern}
use Rattle.sk_tree.specs.declared.pattern.Pattern.TheFolds.{map-Pattern, fold-roll-Pattern}
use Rattle.sk_tree.specs.declared.expr.Expr.{Expr}
use Rattle.sk_tree.specs.declared.expr.EForm.{EForm}
use Rattle.sk_tree.specs.declared.expr.NewField.{NewField}
use Rattle.sk_tree.specs.declared.expr.EForm.TheOpen as E
use Rattle.sk_tree.specs.declared.expr.EForm.TheViews.{roll-EForm}
use Rattle.sk_tree.specs.declared.expr.EForm.TheFolds.{fold-roll-EForm, fold-roll-Expr}
use Rattle.sk_tree.specs.Phrase.{Phrase, Never, Given, Sign, ◌▸◌, Each, Behind, Between}
use Rattle.sk_tree.specs.Strings.{Strings, pairs, rows, pattern_strings, strings_of}
use Rattle.sk_tree.specs.Depth.{expr_depth, most_levels}
use Rattle.sk_tree.specs.Spelt.{Spans, PatternRole, AsChoice, AsSequence, AsPart, AsPlain, may_mark, may_stand, is_plain, SpeltPart, Saying, ReadsString}
use Rattle.sk_tree.proofs.Layers.{PatternLayer, pattern_parts, pattern_law, PartLayer, part_spelt, ExprLayer, expr_parts, expr_law, FormBy, ExprBy, LayerBy, form_by, expr_by}
use Rattle.sk_types_rules.specs.Rules.{operator_of}
use Rattle.sk_types_rules.specs.Plain.{is_yes}
use Rattle.sk_types_laws.proofs.Ats.{both_true, both}
use Rattle.sk_front_laws.proofs.Trees.{bar_free, eform_bare, expr_bare, may_be_string, bare_form, bares}

-- Tokens that may stand in a string

abbrev stands : List Token → Bool
stands ts = list_all (λ (t : Token). may_stand t.kind) ts

abbrev all_stand : Strings → Bool
all_stand ss = list_all stands ss

-- of tokens that say it, and may stand in a string, this holds
record Says (P : Phrase) (A : Type 0) : Type 0 where
  says : (ts : List Token) → P ts → stands ts ≡ true → A

says_left : {P Q : Phrase} {A : Type 0} → Says P A → Says (P ▸ Q) A
says_left f = record { says = λ ts h s. f.says h.0 h.3 (both_true (stands h.0) (stands h.1) (sym (list_all-append (λ (t : Token). may_stand t.kind) h.0 h.1) ∙ ap stands (sym h.2) ∙ s)).0 }

says_right : {P Q : Phrase} {A : Type 0} → Says Q A → Says (P ▸ Q) A
says_right f = record { says = λ ts h s. f.says h.1 h.4 (both_true (stands h.0) (stands h.1) (sym (list_all-append (λ (t : Token). may_stand t.kind) h.0 h.1) ∙ ap stands (sym h.2) ∙ s)).1 }

says_both : {P Q : Phrase} {A B C : Type 0} → (A → B → C) → Says P A → Says Q B → Says (P ▸ Q) C
says_both k f g = record { says = λ ts h s. k ((says_left f).says ts h s) ((says_right g).says ts h s) }

says_given : {T : Type 0} {P : Phrase} {A : Type 0} → Says P A → Says (Given T P) A
says_given f = record { says = λ ts h s. f.says ts h.1 s }

says_spans : {P : Phrase} {A : Type 0} (span : Span) → Says P A → Says (Spans span P) A
says_spans span f = record { says = λ ts h s. f.says ts h.0 s }

says_sure : {P : Phrase} {A : Type 0} → A → Says P A
says_sure a = record { says = λ ts h s. a }

says_same : {P Q : Phrase} {a b : Bool} → P ≡ Q → a ≡ b → Says P (a ≡ true) → Says Q (b ≡ true)
says_same {P} {Q} {a} {b} e f h = subst (λ (R : Phrase). Says R (b ≡ true)) e (subst (λ c. Says P (c ≡ true)) f h)

mark_stands : (m : Mark) (ts : List Token) → Sign m ts → stands ts ≡ true → may_mark m ≡ true
mark_stands m ts h s = (both_true (may_mark m) true (ap stands (sym h.1) ∙ s)).0

no_mark : (m : Mark) {A : Type 0} → may_mark m ≡ false → Says (Sign m) A
no_mark m not = record { says = λ ts h s. let no : false ≡ true = sym not ∙ mark_stands m ts h s in absurd (cc) }

free_of : (m : Mark) → may_mark m ≡ true → bar_free (operator_of m) ≡ true
free_of mark.Bar h = cc
free_of _ h = refl

mark_free : (m : Mark) → Says (Sign m) (bar_free (operator_of m) ≡ true)
mark_free m = record { says = λ ts h s. free_of m (mark_stands m ts h s) }

-- The tree of a string

abbrev none : Saying
none = λ pattern strings. Never

abbrev FormSays : EForm → Type 0
FormSays f = Says (FormBy none f) (bare_form f ≡ true)

abbrev ExprSays : Expr → Type 0
ExprSays e = Says (ExprBy none e) (expr_bare e ≡ true)

abbrev parts : ExprLayer FormSays ExprSays (λ n. Unit {0}) → E.EForm-F EForm Expr NewField
parts y = expr_parts FormSays ExprSays (λ n. Unit {0}) y

abbrev Said : Type 0
Said = (e : Expr) × ExprSays e

abbrev firsts : List Said → List Expr
firsts qs = map (λ (q : Said). q.0) qs

each_behind : (S : Phrase) (qs : List Said) → Says (Behind S (ExprBy none) (firsts qs)) (list_all is_yes (map expr_bare (firsts qs)) ≡ true)
each_behind S [] = says_sure refl
each_behind S (q ∷ qs) = says_right (says_both (both _ _) q.1 (each_behind S qs))

each_between : (S : Phrase) (qs : List Said) → Says (Between S (ExprBy none) (firsts qs)) (list_all is_yes (map expr_bare (firsts qs)) ≡ true)
each_between S [] = says_sure refl
each_between S (q ∷ qs) = says_both (both _ _) q.1 (each_behind S qs)

layer : (y : ExprLayer FormSays ExprSays (λ n. Unit {0})) → Says (LayerBy none (parts y)) (eform_bare (bares (parts y)) ≡ true)
layer (E.Number n) = says_sure refl
layer E.True = says_sure refl
layer E.False = says_sure refl
layer E.Null = says_sure refl
layer (E.Word x) = says_sure refl
layer (E.Hole None) = says_sure refl
layer (E.Hole (Some n)) = says_right (says_left (no_mark mark.OpenParen refl))
layer (E.Pattern pattern strings) = record { says = λ ts h s. absurd h }
layer (E.Paren e) = says_left (no_mark mark.OpenParen refl)
layer (E.Call x args) = says_right (says_left (no_mark mark.OpenParen refl))
layer (E.New x fields) = says_right (says_right (says_left (no_mark mark.OpenParen refl)))
layer (E.Braces es) = says_given (says_right (says_left (each_between _ es)))
layer (E.Member e x) = says_left e.1
layer (E.Index e i) = says_both (both _ _) e.1 (says_right (says_left i.1))
layer (E.Slice e i n) = says_both (both _ _) e.1 (says_right (says_left i.1))
layer (E.Unary m e) = says_given (says_right e.1)
layer (E.Binary m a b) = says_both (λ x (y : (bar_free (operator_of m) ≡ true) × (expr_bare b.0 ≡ true)). both _ _ y.0 (both _ _ x y.1)) a.1 (says_both (λ x y. (x, y)) (mark_free m) b.1)
layer (E.Cond c a b) = says_right (says_left (no_mark mark.Question refl))

expr_says : (e : Expr) → ExprSays e
expr_says = expr_law FormSays ExprSays (λ n. Unit {0}) in_form in_expr (λ n h. tt)
  where
    in_form : (y : ExprLayer FormSays ExprSays (λ n. Unit {0})) → FormSays (roll-EForm (parts y))
    in_form y = says_same (sym (form_by none (parts y))) (sym (fold-roll-EForm Bool Bool Bool eform_bare (λ x. x.form) (λ x. x.value) (parts y))) (layer y)

    in_expr : (e : Expr) → FormSays e.form → ExprSays e
    in_expr e h = says_same (sym (expr_by none e)) (sym (fold-roll-Expr Bool Bool Bool eform_bare (λ x. x.form) (λ x. x.value) (record { span = e.span; form = e.form }))) (says_spans e.span h)

-- The strings of a pattern

-- all lists of tokens that say it give this
pub record Gives (P : Phrase) (A : Type 0) : Type 0 where
  pub gives : (ts : List Token) → P ts → A

pub gives_both : {P Q : Phrase} {A B C : Type 0} → (A → B → C) → Gives P A → Gives Q B → Gives (P ▸ Q) C
gives_both k f g = record { gives = λ ts h. k (f.gives h.0 h.3) (g.gives h.1 h.4) }

pub gives_left : {P Q : Phrase} {A : Type 0} → Gives P A → Gives (P ▸ Q) A
gives_left f = record { gives = λ ts h. f.gives h.0 h.3 }

pub gives_right : {P Q : Phrase} {A : Type 0} → Gives Q A → Gives (P ▸ Q) A
gives_right f = record { gives = λ ts h. f.gives h.1 h.4 }

pub gives_given : {T : Type 0} {P : Phrase} {A : Type 0} → Gives P A → Gives (Given T P) A
gives_given f = record { gives = λ ts h. f.gives ts h.1 }

pub gives_sure : {P : Phrase} {A : Type 0} → A → Gives P A
gives_sure a = record { gives = λ ts h. a }

append_stand : (ss us : Strings) → all_stand ss ≡ true → all_stand us ≡ true → all_stand (ss ++ us) ≡ true
append_stand ss us h k = list_all-append stands ss us ∙ both _ _ h k

front_stands : (front : List Token) (backs : Strings) → stands front ≡ true → all_stand backs ≡ true → all_stand (map (λ back. front ++ back) backs) ≡ true
front_stands front [] h k = refl
front_stands front (b ∷ bs) h k =
    let j = both_true (stands b) (all_stand bs) k in
    both _ _ (list_all-append (λ (t : Token). may_stand t.kind) front b ∙ both _ _ h j.0) (front_stands front bs h j.1)

pairs_stand : (fronts backs : Strings) → all_stand fronts ≡ true → all_stand backs ≡ true → all_stand (pairs fronts backs) ≡ true
pairs_stand [] backs h k = refl
pairs_stand (f ∷ fs) backs h k =
    let j = both_true (stands f) (all_stand fs) h in
    append_stand (map (λ back. f ++ back) backs) (pairs fs backs) (front_stands f backs j.0 k) (pairs_stand fs backs j.1 k)

abbrev PartStands : Pattern → Type 0
PartStands p = (role : PatternRole) → Gives (SpeltPart p role) (all_stand (strings_of p) ≡ true)

abbrev Part : Type 0
Part = (p : Pattern) × PartStands p

abbrev strings : List Part → List Strings
strings qs = map strings_of (map (λ (q : Part). q.0) qs)

choices_behind : (S : Phrase) (qs : List Part) → Gives (Behind S (λ p. SpeltPart p AsSequence) (map (λ (q : Part). q.0) qs)) (all_stand (flat_map (λ s. s) (strings qs)) ≡ true)
choices_behind S [] = gives_sure refl
choices_behind S (q ∷ qs) = gives_right (gives_both (append_stand (strings_of q.0) (flat_map (λ s. s) (strings qs))) (q.1 AsSequence) (choices_behind S qs))

choices_between : (S : Phrase) (qs : List Part) → Gives (Between S (λ p. SpeltPart p AsSequence) (map (λ (q : Part). q.0) qs)) (all_stand (flat_map (λ s. s) (strings qs)) ≡ true)
choices_between S [] = gives_sure refl
choices_between S (q ∷ qs) = gives_both (append_stand (strings_of q.0) (flat_map (λ s. s) (strings qs))) (q.1 AsSequence) (choices_behind S qs)

parts_each : (qs : List Part) → Gives (Each (λ p. SpeltPart p AsPart) (map (λ (q : Part). q.0) qs)) (all_stand (rows (strings qs)) ≡ true)
parts_each [] = gives_sure refl
parts_each (q ∷ qs) = gives_both (pairs_stand (strings_of q.0) (rows (strings qs))) (q.1 AsPart) (parts_each qs)

pattern_layer : (y : PatternLayer PartStands) (role : PatternRole) → Gives (PartLayer (pattern_parts PartStands y) role) (all_stand (pattern_strings (map-Pattern Pattern Strings strings_of (pattern_parts PartStands y))) ≡ true)
pattern_layer (P.Choice ps) AsChoice = gives_given (choices_between _ ps)
pattern_layer (P.Seq ps) AsSequence = gives_given (parts_each ps)
pattern_layer (P.Maybe p) AsPart = gives_left (p.1 AsPlain)
pattern_layer (P.Group p) role = gives_given (gives_right (gives_left (p.1 AsChoice)))
pattern_layer (P.One t) role = record { gives = λ ts h. both _ _ (both _ _ (both_true (is_plain role) (may_stand t.kind) h.0).1 refl) refl }
pattern_layer _ _ = record { gives = λ ts h. absurd h }

part_stands : (p : Pattern) → PartStands p
part_stands = pattern_law PartStands (λ y role. subst (λ (R : PatternRole → Phrase). Gives (R role) (all_stand (strings_of (roll-Pattern (pattern_parts PartStands y))) ≡ true)) (sym (part_spelt (pattern_parts PartStands y))) (subst (λ ss. Gives (PartLayer (pattern_parts PartStands y) role) (all_stand ss ≡ true)) (sym (fold-roll-Pattern Strings pattern_strings (pattern_parts PartStands y))) (pattern_layer y role)))

-- The trees of strings that stand

record AreStrings (ss : Strings) (es : List Expr) : Type 0 where
  count : length es ≡ length ss
  all : list_all may_be_string es ≡ true

trees_of : (ss : Strings) (es : List Expr) → AllZip ReadsString ss es → all_stand ss ≡ true → AreStrings ss es
trees_of [] [] z h = record { count = refl; all = refl }
trees_of [] (e ∷ es) z h = absurd z
trees_of (s ∷ ss) [] z h = absurd z
trees_of (s ∷ ss) (e ∷ es) z h =
    let k = both_true (stands s) (all_stand ss) h in
    let r = trees_of ss es z.1 k.1 in
    let bare : expr_bare e ≡ true = (expr_says e).says s (z.0).spelt k.0 in
    let low : nat_le (expr_depth e) most_levels ≡ true = le-leb (expr_depth e) most_levels (z.0).within in
    record { count = ap suc r.count; all = both _ _ (both _ _ bare low) r.all }

-- The trees of a pattern's strings are strings as a pattern may have.
pub strings_are : (g : Pattern) (ts : List Token) (es : List Expr) → SpeltPart g AsChoice ts → AllZip ReadsString (strings_of g) es → (length es ≡ length (strings_of g)) × (list_all may_be_string es ≡ true)
strings_are g ts es spelt z = let r = trees_of (strings_of g) es z ((part_stands g AsChoice).gives ts spelt) in (r.count, r.all)
