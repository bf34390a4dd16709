-- The names of a tree that reads from a text are words and no keywords.
use Rattle.std.proofs.Common.{◌≡◌, inl, inr, ℕ, Bool, true, List, [], ◌∷◌, ◌++◌, Option, Some, None, refl, sym, ap, subst, ◌∙◌, map-id}
use Rattle.std.specs.Prelude.{◌&&◌, map, flat_map}
use Rattle.std.specs.List.{list_all, AllZip}
use Rattle.std.proofs.lemmas.List.Folds.{list_all-append}
use Rattle.sk_tree.specs.declared.token.Token.{Token}
use Rattle.sk_tree.specs.declared.token.Kind.TheVariants as kind
use Rattle.sk_tree.specs.declared.token.Mark.TheVariants as mark
use Rattle.sk_tree.specs.declared.token.Key.TheVariants as key
use Rattle.sk_tree.specs.declared.pattern.Pattern.{Pattern}
use Rattle.sk_tree.specs.declared.pattern.Pattern.TheOpen as P
use Rattle.sk_tree.specs.declared.pattern.Pattern.TheViews.{roll-Pattern}
use Rattle.sk_tree.specs.declared.pattern.Pattern.TheFolds.{map-Pattern, fold-roll-Pattern}
use Rattle.sk_tree.specs.declared.expr.Expr.{Expr}
use Rattle.sk_tree.specs.declared.expr.EForm.{EForm}
use Rattle.sk_tree.specs.declared.expr.NewField.{NewField}
use Rattle.sk_tree.specs.declared.expr.EForm.TheOpen as E
use Rattle.sk_tree.specs.declared.expr.EForm.TheViews.{roll-EForm}
use Rattle.sk_tree.specs.declared.expr.EForm.TheFolds.{map-EForm, fold-EForm, fold-NewField, fold-roll-EForm, fold-roll-Expr, fold-roll-NewField}
use Rattle.sk_tree.specs.declared.stmt.Stmt.{Stmt}
use Rattle.sk_tree.specs.declared.stmt.Form.{Form}
use Rattle.sk_tree.specs.declared.stmt.Form.TheOpen as F
use Rattle.sk_tree.specs.declared.stmt.Form.TheViews.{roll-Form}
use Rattle.sk_tree.specs.declared.stmt.Form.TheFolds.{map-Form, fold-Form, fold-roll-Form, fold-roll-Stmt}
use Rattle.sk_tree.specs.declared.stmt.Declared.{Declared}
use Rattle.sk_tree.specs.declared.stmt.StepKind.{StepKind}
use Rattle.sk_tree.specs.declared.stmt.StepKind.TheVariants as step
use Rattle.sk_tree.specs.declared.item.Base.{Base}
use Rattle.sk_tree.specs.declared.item.Base.TheVariants as base
use Rattle.sk_tree.specs.declared.item.TyTree.{TyTree}
use Rattle.sk_tree.specs.declared.item.Field.{Field}
use Rattle.sk_tree.specs.declared.item.Param.{Param}
use Rattle.sk_tree.specs.declared.item.Item.{Item}
use Rattle.sk_tree.specs.declared.item.Item.TheVariants as item
use Rattle.sk_tree.specs.declared.item.Tree.{Tree}
use Rattle.sk_tree.specs.Phrase.{Phrase, Never, Given, One, Sign, Keyword, Each, Behind, Between, Perhaps, ◌▸◌}
use Rattle.sk_tree.specs.Strings.{Strings, pairs, rows, pattern_strings, strings_of}
use Rattle.sk_tree.specs.Tokens.{AreTokens}
use Rattle.sk_tree.specs.Names.{eform_names, expr_names, any_names, base_names, ty_names, declared_names, form_names, stmt_names, param_names, field_names, any_name, any_ty_names, fun_names, item_names, all_names}
use Rattle.sk_tree.specs.Names as N
use Rattle.sk_tree.specs.Spelt.{Spans, PatternRole, AsChoice, AsSequence, AsPart, AsPlain, SpeltPart, Saying, SpeltString, ReadsString, Holds, SpeltPattern, SpeltExpr, SpeltBase, SpeltLength, SpeltTy, Role, InBlock, AsBody, AsFirst, AsNext, SpeltDeclared, SpeltStep, SpeltTarget, SpeltParens, SpeltStmt, SpeltField, SpeltParam, SpeltResult, SpeltItem, SpeltTree}
use Rattle.sk_tree.proofs.Layers.{PatternLayer, pattern_parts, pattern_law, PartLayer, part_spelt, ExprLayer, expr_parts, expr_law, FormBy, ExprBy, FieldBy, LayerBy, form_by, expr_by, field_by, StmtLayer, stmt_parts, stmt_law, SpeltForm, FormLayer, form_is, stmt_is}
use Rattle.sk_prog.specs.Fits.{is_name}
use Rattle.sk_types_laws.proofs.Ats.{both_true, both}
use Rattle.sk_front_laws.proofs.Words.{kind_named, named, tokens_named}

-- of tokens that say it, and whose words are names, this holds
record Says (P : Phrase) (b : Bool) : Type 0 where
  says : (ts : List Token) → P ts → named ts ≡ true → b ≡ true

says_left : {P Q : Phrase} {b : Bool} → Says P b → Says (P ▸ Q) b
says_left f = record { says = λ ts h s. f.says h.0 h.3 (both_true (named h.0) (named h.1) (sym (list_all-append (λ (t : Token). kind_named t.kind) h.0 h.1) ∙ ap named (sym h.2) ∙ s)).0 }

says_right : {P Q : Phrase} {b : Bool} → Says Q b → Says (P ▸ Q) b
says_right f = record { says = λ ts h s. f.says h.1 h.4 (both_true (named h.0) (named h.1) (sym (list_all-append (λ (t : Token). kind_named t.kind) h.0 h.1) ∙ ap named (sym h.2) ∙ s)).1 }

says_both : {P Q : Phrase} {a b : Bool} → Says P a → Says Q b → Says (P ▸ Q) (a && b)
says_both {a = a} {b = b} f g = record { says = λ ts h s. both a b ((says_left f).says ts h s) ((says_right g).says ts h s) }

-- nothing more is asked
says_alone : {P : Phrase} {a : Bool} → Says P a → Says P (a && true)
says_alone {a = a} f = record { says = λ ts h s. both a true (f.says ts h s) refl }

says_given : {T : Type 0} {P : Phrase} {b : Bool} → Says P b → Says (Given T P) b
says_given f = record { says = λ ts h s. f.says ts h.1 s }

says_spans : {P : Phrase} {b : Bool} (s : _) → Says P b → Says (Spans s P) b
says_spans span f = record { says = λ ts h s. f.says ts h.0 s }

sure : {P : Phrase} → Says P true
sure = record { says = λ ts h s. refl }

never : {P : Phrase} {b : Bool} → ((ts : List Token) → P ts → ⊥) → Says P b
never f = record { says = λ ts h s. absurd (f ts h) }

says_same : {P Q : Phrase} {a b : Bool} → P ≡ Q → a ≡ b → Says P a → Says Q b
says_same {P} {Q} {a} {b} e f h = subst (λ (R : Phrase). Says R b) e (subst (λ c. Says P c) f h)

word_says : (x : List ℕ) → Says (One (kind.Word x)) (is_name x)
word_says x = record { says = λ ts h s. (both_true (is_name x) true (ap named (sym h.1) ∙ s)).0 }

-- parts, one after another
module _ {A : Type 0} (say : A → Phrase) (test : A → Bool) where
  abbrev Known : Type 0
  Known = (a : A) × Says (say a) (test a)

  abbrev those : List Known → List A
  those qs = map (λ (q : Known). q.0) qs

  known_each : (qs : List Known) → Says (Each say (those qs)) (list_all N.is_yes (map test (those qs)))
  known_each [] = sure
  known_each (q ∷ qs) = says_both q.1 (known_each qs)

  known_behind : (S : Phrase) (qs : List Known) → Says (Behind S say (those qs)) (list_all N.is_yes (map test (those qs)))
  known_behind S [] = sure
  known_behind S (q ∷ qs) = says_right (says_both q.1 (known_behind S qs))

  known_between : (S : Phrase) (qs : List Known) → Says (Between S say (those qs)) (list_all N.is_yes (map test (those qs)))
  known_between S [] = sure
  known_between S (q ∷ qs) = says_both q.1 (known_behind S qs)

  module _ (all : (a : A) → Says (say a) (test a)) where
    all_each : (xs : List A) → Says (Each say xs) (list_all test xs)
    all_each [] = sure
    all_each (x ∷ xs) = says_both (all x) (all_each xs)

    all_behind : (S : Phrase) (xs : List A) → Says (Behind S say xs) (list_all test xs)
    all_behind S [] = sure
    all_behind S (x ∷ xs) = says_right (says_both (all x) (all_behind S xs))

    all_between : (S : Phrase) (xs : List A) → Says (Between S say xs) (list_all test xs)
    all_between S [] = sure
    all_between S (x ∷ xs) = says_both (all x) (all_behind S xs)

-- The strings of a pattern

abbrev all_named : Strings → Bool
all_named ss = list_all named ss

append_named : (P : Phrase) (ss us : Strings) → Says P (all_named ss && all_named us) → Says P (all_named (ss ++ us))
append_named P ss us h = subst (λ b. Says P b) (sym (list_all-append named ss us)) h

front_named : (front : List Token) (backs : Strings) → named front ≡ true → all_named backs ≡ true → all_named (map (λ back. front ++ back) backs) ≡ true
front_named front [] h k = refl
front_named front (b ∷ bs) h k =
    let j = both_true (named b) (all_named bs) k in
    both _ _ (list_all-append (λ (t : Token). kind_named t.kind) front b ∙ both _ _ h j.0) (front_named front bs h j.1)

pairs_named : (fronts backs : Strings) → all_named fronts ≡ true → all_named backs ≡ true → all_named (pairs fronts backs) ≡ true
pairs_named [] backs h k = refl
pairs_named (f ∷ fs) backs h k =
    let j = both_true (named f) (all_named fs) h in
    list_all-append named (map (λ back. f ++ back) backs) (pairs fs backs) ∙ both _ _ (front_named f backs j.0 k) (pairs_named fs backs j.1 k)

says_pairs : (P : Phrase) (ss us : Strings) → Says P (all_named ss && all_named us) → Says P (all_named (pairs ss us))
says_pairs P ss us h = record { says = λ ts t s. let k = both_true (all_named ss) (all_named us) (h.says ts t s) in pairs_named ss us k.0 k.1 }

abbrev PartSays : Pattern → Type 0
PartSays p = (role : PatternRole) → Says (SpeltPart p role) (all_named (strings_of p))

abbrev Part : Type 0
Part = (p : Pattern) × PartSays p

abbrev strings : List Part → List Strings
strings qs = map strings_of (map (λ (q : Part). q.0) qs)

choices_behind : (S : Phrase) (qs : List Part) → Says (Behind S (λ p. SpeltPart p AsSequence) (map (λ (q : Part). q.0) qs)) (all_named (flat_map (λ s. s) (strings qs)))
choices_behind S [] = sure
choices_behind S (q ∷ qs) = says_right (append_named _ (strings_of q.0) (flat_map (λ s. s) (strings qs)) (says_both (q.1 AsSequence) (choices_behind S qs)))

choices_between : (S : Phrase) (qs : List Part) → Says (Between S (λ p. SpeltPart p AsSequence) (map (λ (q : Part). q.0) qs)) (all_named (flat_map (λ s. s) (strings qs)))
choices_between S [] = sure
choices_between S (q ∷ qs) = append_named _ (strings_of q.0) (flat_map (λ s. s) (strings qs)) (says_both (q.1 AsSequence) (choices_behind S qs))

parts_each : (qs : List Part) → Says (Each (λ p. SpeltPart p AsPart) (map (λ (q : Part). q.0) qs)) (all_named (rows (strings qs)))
parts_each [] = sure
parts_each (q ∷ qs) = says_pairs _ (strings_of q.0) (rows (strings qs)) (says_both (q.1 AsPart) (parts_each qs))

pattern_layer : (y : PatternLayer PartSays) (role : PatternRole) → Says (PartLayer (pattern_parts PartSays y) role) (all_named (pattern_strings (map-Pattern Pattern Strings strings_of (pattern_parts PartSays y))))
pattern_layer (P.Choice ps) AsChoice = says_given (choices_between _ ps)
pattern_layer (P.Seq ps) AsSequence = says_given (parts_each ps)
pattern_layer (P.Maybe p) AsPart = says_left (p.1 AsPlain)
pattern_layer (P.Group p) role = says_given (says_right (says_left (p.1 AsChoice)))
pattern_layer (P.One t) role = record { says = λ ts h s. both (named (t ∷ [])) true (ap named (sym h.1) ∙ s) refl }
pattern_layer _ _ = never (λ ts h. h)

part_says : (p : Pattern) → PartSays p
part_says = pattern_law PartSays (λ y role. subst (λ (R : PatternRole → Phrase). Says (R role) (all_named (strings_of (roll-Pattern (pattern_parts PartSays y))))) (sym (part_spelt (pattern_parts PartSays y))) (subst (λ ss. Says (PartLayer (pattern_parts PartSays y) role) (all_named ss)) (sym (fold-roll-Pattern Strings pattern_strings (pattern_parts PartSays y))) (pattern_layer y role)))

-- Expressions

-- of what patterns say
module _ (what : Saying) (told : (g : Pattern) (es : List Expr) → Says (what g es) (list_all N.is_yes (map (expr_names is_name) es))) where
  abbrev form_named : EForm → Bool
  form_named = fold-EForm Bool Bool Bool (eform_names is_name) (λ x. x.form) (λ x. is_name x.name && x.value)

  abbrev field_named : NewField → Bool
  field_named = fold-NewField Bool Bool Bool (eform_names is_name) (λ x. x.form) (λ x. is_name x.name && x.value)

  abbrev FormSays : EForm → Type 0
  FormSays f = Says (FormBy what f) (form_named f)

  abbrev ExprSays : Expr → Type 0
  ExprSays e = Says (ExprBy what e) (expr_names is_name e)

  abbrev FieldSays : NewField → Type 0
  FieldSays n = Says (FieldBy what n) (field_named n)

  abbrev parts : ExprLayer FormSays ExprSays FieldSays → E.EForm-F EForm Expr NewField
  parts y = expr_parts FormSays ExprSays FieldSays y

  layer : (y : ExprLayer FormSays ExprSays FieldSays) → Says (LayerBy what (parts y)) (eform_names is_name (map-EForm EForm Expr NewField Bool Bool Bool form_named (expr_names is_name) field_named (parts y)))
  layer (E.Number n) = sure
  layer E.True = sure
  layer E.False = sure
  layer E.Null = sure
  layer (E.Word x) = word_says x
  layer (E.Hole n) = sure
  layer (E.Pattern pattern es) = subst (λ zs. Says (what pattern zs) (list_all N.is_yes (map (expr_names is_name) (map (λ q. q.0) es)))) (sym (map-id (map (λ q. q.0) es))) (told pattern (map (λ q. q.0) es))
  layer (E.Paren e) = says_right (says_left e.1)
  layer (E.Call x args) = says_both (word_says x) (says_right (says_left (known_between (ExprBy what) (expr_names is_name) _ args)))
  layer (E.New x fields) = says_right (says_both (word_says x) (says_right (says_left (known_between (FieldBy what) field_named _ fields))))
  layer (E.Braces es) = says_given (says_right (says_left (known_between (ExprBy what) (expr_names is_name) _ es)))
  layer (E.Member e x) = says_both e.1 (says_right (word_says x))
  layer (E.Index e i) = says_both e.1 (says_right (says_left i.1))
  layer (E.Slice e i n) = says_both e.1 (says_right (says_both i.1 (says_right (says_left n.1))))
  layer (E.Unary m e) = says_given (says_right e.1)
  layer (E.Binary m a b) = says_both a.1 (says_right b.1)
  layer (E.Cond c a b) = says_both c.1 (says_right (says_both a.1 (says_right b.1)))

  expr_says : (e : Expr) → ExprSays e
  expr_says = expr_law FormSays ExprSays FieldSays in_form in_expr in_field
    where
      in_form : (y : ExprLayer FormSays ExprSays FieldSays) → FormSays (roll-EForm (parts y))
      in_form y = says_same (sym (form_by what (parts y))) (sym (fold-roll-EForm Bool Bool Bool (eform_names is_name) (λ x. x.form) (λ x. is_name x.name && x.value) (parts y))) (layer y)

      in_expr : (e : Expr) → FormSays e.form → ExprSays e
      in_expr e h = says_same (sym (expr_by what e)) (sym (fold-roll-Expr Bool Bool Bool (eform_names is_name) (λ x. x.form) (λ x. is_name x.name && x.value) (record { span = e.span; form = e.form }))) (says_spans e.span h)

      in_field : (n : NewField) → ExprSays n.value → FieldSays n
      in_field n h = says_same (sym (field_by what n)) (sym (fold-roll-NewField Bool Bool Bool (eform_names is_name) (λ x. x.form) (λ x. is_name x.name && x.value) (record { name = n.name; value = n.value }))) (says_both (word_says n.name) (says_right h))

string_says : (e : Expr) → Says (SpeltString e) (expr_names is_name e)
string_says = expr_says (λ pattern strings. Never) (λ g es. never (λ ts h. h))

zip_named : (ss : Strings) (es : List Expr) → AllZip ReadsString ss es → all_named ss ≡ true → list_all N.is_yes (map (expr_names is_name) es) ≡ true
zip_named [] [] z h = refl
zip_named [] (e ∷ es) z h = absurd z
zip_named (s ∷ ss) [] z h = absurd z
zip_named (s ∷ ss) (e ∷ es) z h =
    let k = both_true (named s) (all_named ss) h in
    both _ _ ((string_says e).says s (z.0).spelt k.0) (zip_named ss es z.1 k.1)

holds_named : (g : Pattern) (es : List Expr) → Holds g es → all_named (strings_of g) ≡ true → list_all N.is_yes (map (expr_names is_name) es) ≡ true
holds_named g es (inl h) k = zip_named (strings_of g) es h.each k
holds_named g es (inr h) k = ap (λ zs. list_all N.is_yes (map (expr_names is_name) zs)) h.1

pattern_says : (g : Pattern) (es : List Expr) → Says (SpeltPattern g es) (list_all N.is_yes (map (expr_names is_name) es))
pattern_says g es = record { says = λ ts h s. holds_named g es h.0 ((inside g).says ts h.1 s) }
  where
    inside : (g : Pattern) → Says (Sign mark.OpenPattern ▸ SpeltPart g AsChoice ▸ Sign mark.ClosePattern) (all_named (strings_of g))
    inside g = says_right (says_left (part_says g AsChoice))

of_expr : (e : Expr) → Says (SpeltExpr e) (expr_names is_name e)
of_expr = expr_says SpeltPattern pattern_says

of_any : (v : Option Expr) → Says (Perhaps SpeltExpr v) (any_names is_name v)
of_any None = sure
of_any (Some e) = of_expr e

-- Types

of_base : (b : Base) → Says (SpeltBase b) (base_names is_name b)
of_base base.Int = sure
of_base base.Bit = sure
of_base (base.Named x) = word_says x

of_length : (e : Expr) → Says (SpeltLength e) (expr_names is_name e)
of_length e = says_right (says_left (of_expr e))

of_ty : (t : TyTree) → Says (SpeltTy t) (ty_names is_name t)
of_ty t = says_given (says_both (of_base t.base) (all_each SpeltLength (expr_names is_name) of_length t.lengths))

-- Statements

of_target : (e : Expr) → Says (SpeltTarget e) (expr_names is_name e)
of_target e = says_given (of_expr e)

of_parens : (e : Expr) → Says (SpeltParens e) (expr_names is_name e)
of_parens e = says_right (says_left (of_expr e))

of_declared : (d : Declared) → Says (SpeltDeclared d) (declared_names is_name d)
of_declared d = says_both (word_says d.name) (go d.value)
  where
    go : (v : Option Expr) → Says (Perhaps (λ value. Sign mark.Assign ▸ SpeltExpr value) v) (any_names is_name v)
    go None = sure
    go (Some e) = says_right (of_expr e)

of_step : (kind : StepKind) (x : Expr) (by : Option Expr) → Says (SpeltStep kind x by) (expr_names is_name x && any_names is_name by)
of_step step.PostInc x None = says_alone (says_left (of_target x))
of_step step.PostDec x None = says_alone (says_left (of_target x))
of_step step.PreInc x None = says_alone (says_right (of_target x))
of_step step.PreDec x None = says_alone (says_right (of_target x))
of_step step.Add x (Some e) = says_both (of_target x) (says_right (of_expr e))
of_step step.Sub x (Some e) = says_both (of_target x) (says_right (of_expr e))
of_step step.PostInc x (Some e) = never (λ ts h. h)
of_step step.PostDec x (Some e) = never (λ ts h. h)
of_step step.PreInc x (Some e) = never (λ ts h. h)
of_step step.PreDec x (Some e) = never (λ ts h. h)
of_step step.Add x None = never (λ ts h. h)
of_step step.Sub x None = never (λ ts h. h)

abbrev act_named : Form → Bool
act_named = fold-Form Bool Bool (form_names is_name) (λ s. s.form)

abbrev ActSays : Form → Type 0
ActSays f = (role : Role) → Says (SpeltForm f role) (act_named f)

abbrev StmtSays : Stmt → Type 0
StmtSays s = (role : Role) → Says (SpeltStmt s role) (stmt_names is_name s)

abbrev acts : StmtLayer ActSays StmtSays → F.Form-F Form Stmt
acts y = stmt_parts ActSays StmtSays y

abbrev Told : Type 0
Told = (s : Stmt) × StmtSays s

in_block : (qs : List Told) → Says (Each (λ s. SpeltStmt s InBlock) (map (λ (q : Told). q.0) qs)) (list_all N.is_yes (map (stmt_names is_name) (map (λ (q : Told). q.0) qs)))
in_block [] = sure
in_block (q ∷ qs) = says_both (q.1 InBlock) (in_block qs)

act_layer : (y : StmtLayer ActSays StmtSays) (role : Role) → Says (FormLayer (acts y) role) (form_names is_name (map-Form Form Stmt Bool Bool act_named (stmt_names is_name) (acts y)))
act_layer (F.Block ss) role = says_given (says_right (says_left (in_block ss)))
act_layer F.Empty role = sure
act_layer (F.Declare y ds) role = says_given (says_both (of_ty y) (says_left (all_between SpeltDeclared (declared_names is_name) of_declared _ ds)))
act_layer (F.Assign x e) role = says_both (of_target x) (says_right (says_left (of_expr e)))
act_layer (F.Call e) role = says_given (says_given (says_left (of_expr e)))
act_layer (F.Step kind x by) role = says_given (says_left (of_step kind x by))
act_layer (F.If c a None) role = says_given (says_right (says_both (of_parens c) (says_left (says_alone (a.1 AsBody)))))
act_layer (F.If c a (Some b)) role = says_given (says_right (says_both (of_parens c) (says_both (a.1 AsBody) (says_right (b.1 AsBody)))))
act_layer (F.While c a) role = says_given (says_right (says_both (of_parens c) (a.1 AsBody)))
act_layer (F.For a c n b) role = says_given (says_right (says_right (says_both (a.1 AsFirst) (says_right (says_both (of_expr c) (says_right (says_both (n.1 AsNext) (says_right (b.1 AsBody)))))))))
act_layer (F.Return v) role = says_given (says_right (says_left (of_any v)))
act_layer (F.Assert e) role = says_given (says_right (says_left (of_expr e)))
act_layer (F.Assume e) role = says_given (says_right (says_left (of_expr e)))
act_layer (F.Minimize e) role = says_given (says_right (says_left (of_parens e)))
act_layer (F.Repeat c a) role = says_given (says_right (says_both (of_parens c) (a.1 AsBody)))
act_layer (F.MinRepeat a) role = says_given (says_right (a.1 AsBody))
act_layer (F.Reorder ss) role = says_given (says_right (says_right (says_left (in_block ss))))

of_stmt : (s : Stmt) → StmtSays s
of_stmt = stmt_law ActSays StmtSays in_form in_stmt
  where
    in_form : (y : StmtLayer ActSays StmtSays) → ActSays (roll-Form (acts y))
    in_form y role = says_same (ap (λ (R : Role → Phrase). R role) (sym (form_is (acts y)))) (sym (fold-roll-Form Bool Bool (form_names is_name) (λ s. s.form) (acts y))) (act_layer y role)

    in_stmt : (s : Stmt) → ActSays s.form → StmtSays s
    in_stmt s h role = says_same (ap (λ (R : Role → Phrase). R role) (sym (stmt_is s))) (sym (fold-roll-Stmt Bool Bool (form_names is_name) (λ s. s.form) (record { span = s.span; form = s.form }))) (says_spans s.span (h role))

-- Items

of_field : (d : Field) → Says (SpeltField d) (field_names is_name d)
of_field d = says_both (of_ty d.ty) (says_left (word_says d.name))

of_param : (p : Param) → Says (SpeltParam p) (param_names is_name p)
of_param p = says_right (says_both (of_ty p.ty) (word_says p.name))

of_result : (t : Option TyTree) → Says (SpeltResult t) (any_ty_names is_name t)
of_result None = sure
of_result (Some t) = of_ty t

of_implements : (o : Option (List ℕ)) → Says (Perhaps (λ g. Keyword key.Implements ▸ One (kind.Word g)) o) (any_name is_name o)
of_implements None = sure
of_implements (Some x) = says_right (word_says x)

of_item : (i : Item) → Says (SpeltItem i) (item_names is_name i)
of_item (item.Pragma word text) = sure
of_item (item.Struct x fields) = says_right (says_both (word_says x) (says_right (says_left (all_each SpeltField (field_names is_name) of_field fields))))
of_item (item.Const x e) = says_right (says_both (word_says x) (says_right (says_left (of_expr e))))
of_item (item.Fun f) =
    says_right (says_both (of_result f.result) (says_both (word_says f.name) (says_right
    (says_both (all_between SpeltParam (param_names is_name) of_param _ f.params) (says_right
    (says_both (of_implements f.implements) (says_right (says_left
    (all_each (λ s. SpeltStmt s InBlock) (stmt_names is_name) (λ s. of_stmt s InBlock) f.body)))))))))

-- the names of a tree that tokens spell, where the words of these are names
pub spelt_named : (tokens : List Token) (tree : Tree) → SpeltTree tree tokens → named tokens ≡ true → all_names is_name tree ≡ true
spelt_named tokens tree spelt held = (all_each SpeltItem (item_names is_name) of_item tree.items).says tokens spelt held

pub tree_named : (text : List ℕ) (tokens : List Token) (tree : Tree) → AreTokens text tokens → SpeltTree tree tokens → all_names is_name tree ≡ true
tree_named text tokens tree lexed spelt = spelt_named tokens tree spelt (tokens_named text tokens lexed)
