-- A tree that reads, and whose patterns have no fault, has strings as patterns may.
use Rattle.std.proofs.Common.{◌≡◌, inl, inr, suc, ◌≤◌, Bool, true, List, [], ◌∷◌, ◌++◌, length, Contains, Option, Some, None, refl, sym, ap, subst, ◌∙◌, arith, map-id}
use Rattle.std.specs.Prelude.{◌&&◌, map, nat_le, flat_map}
use Rattle.std.specs.List.{list_all}
use Rattle.std.proofs.lemmas.List.{length-map, append_assoc}
use Rattle.std.proofs.lemmas.Bool.{le-leb}
use Rattle.std.proofs.lemmas.List.Folds.{list_all-map}
use Rattle.sk_tree.specs.declared.token.Token.{Token}
use Rattle.sk_tree.specs.declared.token.Mark.TheVariants as mark
use Rattle.sk_tree.specs.declared.pattern.Pattern.{Pattern}
use Rattle.sk_tree.specs.declared.expr.Expr.{Expr}
use Rattle.sk_tree.specs.declared.expr.EForm.{EForm}
use Rattle.sk_tree.specs.declared.expr.NewField.{NewField}
use Rattle.sk_tree.specs.declared.expr.EForm.TheOpen as E
use Rattle.sk_tree.specs.declared.expr.EForm.TheViews.{roll-EForm}
use Rattle.sk_tree.specs.declared.expr.EForm.TheFolds.{map-EForm, fold-EForm, fold-NewField, fold-roll-EForm, fold-roll-Expr, fold-roll-NewField, para-roll-EForm, para-roll-Expr}
use Rattle.sk_tree.specs.declared.stmt.Stmt.{Stmt}
use Rattle.sk_tree.specs.declared.stmt.Form.{Form}
use Rattle.sk_tree.specs.declared.stmt.Form.TheOpen as F
use Rattle.sk_tree.specs.declared.stmt.Form.TheViews.{roll-Form}
use Rattle.sk_tree.specs.declared.stmt.Form.TheFolds.{map-Form, fold-Form, fold-roll-Form, fold-roll-Stmt}
use Rattle.sk_tree.specs.declared.stmt.Declared.{Declared}
use Rattle.sk_tree.specs.declared.stmt.StepKind.{StepKind}
use Rattle.sk_tree.specs.declared.stmt.StepKind.TheVariants as step
use Rattle.sk_tree.specs.declared.item.Item.{Item}
use Rattle.sk_tree.specs.declared.item.Item.TheVariants as item
use Rattle.sk_tree.specs.declared.item.Tree.{Tree}
use Rattle.sk_tree.specs.Phrase.{Phrase, Each, Behind, Between, Perhaps, ◌▸◌, Sign}
use Rattle.sk_tree.specs.Strings.{most_strings}
use Rattle.sk_tree.specs.Patterns.{Patterns, join, any_patterns, eform_patterns, expr_patterns, ty_patterns, declared_patterns, form_patterns, stmt_patterns, param_patterns, item_patterns, patterns_of}
use Rattle.sk_tree.specs.Reads.{HasTooManyStrings, HasBadAlternative}
use Rattle.sk_tree.specs.Spelt.{Spans, AsChoice, SpeltPart, SpeltPattern, SpeltExpr, HasTooMany, HasBad, Holds, Role, InBlock, AsBody, AsFirst, AsNext, SpeltDeclared, SpeltStep, SpeltTarget, SpeltParens, SpeltStmt, SpeltItem, SpeltTree}
use Rattle.sk_tree.proofs.Layers.{ExprLayer, expr_parts, expr_law, FormBy, FieldBy, LayerBy, form_by, expr_by, field_by, StmtLayer, stmt_parts, stmt_law, SpeltForm, FormLayer, form_is, stmt_is}
use Rattle.sk_types_rules.specs.Plain.{is_yes}
use Rattle.sk_types_laws.proofs.Ats.{both}
use Rattle.sk_front_laws.proofs.Trees.{may_be_string, eform_whole, expr_whole, any_whole, declared_whole, form_whole, stmt_whole, item_whole, whole_form, field_whole, WithWhole, wholes, act_whole, field_whole_is, act_whole_is, stmt_whole_is}
use Rattle.sk_front_laws.proofs.Spelt.{Gives, gives_both, gives_left, gives_right, gives_given, gives_sure, strings_are}

-- Patterns without a fault

record Clean (p : Pattern) : Type 0 where
  few : HasTooMany p → ⊥
  good : HasBad p → ⊥

abbrev AllClean : Patterns → Type 0
AllClean [] = Unit {0}
AllClean (p ∷ ps) = Clean p × AllClean ps

clean_parts : (ps qs : Patterns) → AllClean (ps ++ qs) → AllClean ps × AllClean qs
clean_parts [] qs h = (tt, h)
clean_parts (p ∷ ps) qs h = let r = clean_parts ps qs h.1 in ((h.0, r.0), r.1)

-- Expressions

strings_whole : (g : Pattern) (ts : List Token) (es : List Expr) → SpeltPart g AsChoice ts → Holds g es → Clean g → (nat_le (length (map WithWhole es)) most_strings && list_all (λ (e : Expr × Bool). may_be_string e.0) (map WithWhole es)) ≡ true
strings_whole g ts es spelt (inl h) c =
    let r = strings_are g ts es spelt h.each in
    let few : length (map WithWhole es) ≤ most_strings = omega (arith, h.few, r.0, length-map es WithWhole) in
    both _ _ (le-leb _ _ few) (list_all-map (λ (e : Expr × Bool). may_be_string e.0) WithWhole es ∙ r.1)
strings_whole g ts es spelt (inr h) c = elim h.0 [ inl many ↦ absurd (c.few many) | inr bad ↦ absurd (c.good bad) ]

-- where these patterns have no fault, this test holds
record Whole (ps : Patterns) (b : Bool) : Type 0 where
  whole : AllClean ps → b ≡ true

both_whole : {ps qs : Patterns} {a b : Bool} → Whole ps a → Whole qs b → Whole (ps ++ qs) (a && b)
both_whole {ps} {qs} {a} {b} h k = record { whole = λ c. let r = clean_parts ps qs c in both a b (h.whole r.0) (k.whole r.1) }

sure : {P : Phrase} {ps : Patterns} → Gives P (Whole ps true)
sure = gives_sure (record { whole = λ c. refl })

gives_map : {P : Phrase} {A B : Type 0} → (A → B) → Gives P A → Gives P B
gives_map k f = record { gives = λ ts h. k (f.gives ts h) }

-- of the first patterns, and of the last
first_whole : {ps : Patterns} {a : Bool} (qs : Patterns) → Whole ps a → Whole (ps ++ qs) a
first_whole {ps} qs h = record { whole = λ c. h.whole (clean_parts ps qs c).0 }

last_whole : {qs : Patterns} {a : Bool} (ps : Patterns) → Whole qs a → Whole (ps ++ qs) a
last_whole {qs} ps h = record { whole = λ c. h.whole (clean_parts ps qs c).1 }

-- patterns are joined from the left
joined : (ps qs rs : Patterns) {a : Bool} → Whole (ps ++ (qs ++ rs)) a → Whole (ps ++ qs ++ rs) a
joined ps qs rs {a} h = subst (λ zs. Whole zs a) (sym (append_assoc ps qs rs)) h

-- nothing stands behind it
alone_whole : {ps : Patterns} {a : Bool} → Whole ps a → Whole (ps ++ []) (a && true)
alone_whole {ps} {a} h = record { whole = λ c. both a true (h.whole (clean_parts ps [] c).0) refl }

abbrev form_held : EForm → Patterns
form_held = fold-EForm Patterns Patterns Patterns eform_patterns (λ x. x.form) (λ x. x.value)

abbrev field_held : NewField → Patterns
field_held = fold-NewField Patterns Patterns Patterns eform_patterns (λ x. x.form) (λ x. x.value)

abbrev FormWhole : EForm → Type 0
FormWhole f = Gives (FormBy SpeltPattern f) (Whole (form_held f) (whole_form f))

abbrev ExprWhole : Expr → Type 0
ExprWhole e = Gives (SpeltExpr e) (Whole (expr_patterns e) (expr_whole e))

abbrev FieldWhole : NewField → Type 0
FieldWhole n = Gives (FieldBy SpeltPattern n) (Whole (field_held n) (field_whole n))

abbrev parts : ExprLayer FormWhole ExprWhole FieldWhole → E.EForm-F EForm Expr NewField
parts y = expr_parts FormWhole ExprWhole FieldWhole y

-- parts of an expression, one after another
module _ {A : Type 0} (say : A → Phrase) (held : A → Patterns) (whole : A → Bool) where
  abbrev Known : Type 0
  Known = (a : A) × Gives (say a) (Whole (held a) (whole a))

  abbrev those : List Known → List A
  those qs = map (λ (q : Known). q.0) qs

  abbrev AllKnown : List Known → Type 0
  AllKnown qs = Whole (join (map held (those qs))) (list_all (λ (a : A × Bool). a.1) (map (λ a. (a, whole a)) (those qs)))

  behind_whole : (S : Phrase) (qs : List Known) → Gives (Behind S say (those qs)) (AllKnown qs)
  behind_whole S [] = sure
  behind_whole S (q ∷ qs) = gives_right (gives_both both_whole q.1 (behind_whole S qs))

  between_whole : (S : Phrase) (qs : List Known) → Gives (Between S say (those qs)) (AllKnown qs)
  between_whole S [] = sure
  between_whole S (q ∷ qs) = gives_both both_whole q.1 (behind_whole S qs)

pattern_whole : (g : Pattern) (es : List Expr) → Gives (SpeltPattern g (map (λ y. y) es)) (Whole (g ∷ []) (nat_le (length (map WithWhole es)) most_strings && list_all (λ (e : Expr × Bool). may_be_string e.0) (map WithWhole es)))
pattern_whole g es = record { gives = λ ts h. record { whole = λ c. go ts (subst (λ trees. SpeltPattern g trees ts) (map-id es) h) c.0 } }
  where
    go : (ts : List Token) → SpeltPattern g es ts → Clean g → (nat_le (length (map WithWhole es)) most_strings && list_all (λ (e : Expr × Bool). may_be_string e.0) (map WithWhole es)) ≡ true
    go ts (holds, (us, vs, is, open_mark, (ws, xs, also, part, close_mark))) c = strings_whole g ws es part holds c

layer : (y : ExprLayer FormWhole ExprWhole FieldWhole) → Gives (LayerBy SpeltPattern (parts y)) (Whole (eform_patterns (map-EForm EForm Expr NewField Patterns Patterns Patterns form_held expr_patterns field_held (parts y))) (eform_whole (wholes (parts y))))
layer (E.Number n) = sure
layer E.True = sure
layer E.False = sure
layer E.Null = sure
layer (E.Word x) = sure
layer (E.Hole n) = sure
layer (E.Pattern pattern strings) = pattern_whole pattern (map (λ q. q.0) strings)
layer (E.Paren e) = gives_right (gives_left e.1)
layer (E.Call x args) = gives_right (gives_right (gives_left (between_whole SpeltExpr expr_patterns expr_whole _ args)))
layer (E.New x fields) = gives_right (gives_right (gives_right (gives_left (between_whole (FieldBy SpeltPattern) field_held field_whole _ fields))))
layer (E.Braces es) = gives_given (gives_right (gives_left (between_whole SpeltExpr expr_patterns expr_whole _ es)))
layer (E.Member e x) = gives_left e.1
layer (E.Index e i) = gives_both both_whole e.1 (gives_right (gives_left i.1))
layer (E.Slice e i n) = gives_map (joined (expr_patterns e.0) (expr_patterns i.0) (expr_patterns n.0)) (gives_both both_whole e.1 (gives_right (gives_left (gives_map (first_whole (expr_patterns n.0)) i.1))))
layer (E.Unary m e) = gives_given (gives_right e.1)
layer (E.Binary m a b) = gives_both both_whole a.1 (gives_right b.1)
layer (E.Cond c a b) = gives_map (joined (expr_patterns c.0) (expr_patterns a.0) (expr_patterns b.0)) (gives_both both_whole c.1 (gives_right (gives_both both_whole a.1 (gives_right b.1))))

-- the same of phrases, patterns and answers that are equal
gives_same : {P Q : Phrase} {ps qs : Patterns} {a b : Bool} → P ≡ Q → ps ≡ qs → a ≡ b → Gives P (Whole ps a) → Gives Q (Whole qs b)
gives_same {P} {Q} {ps} {qs} {a} {b} e f g h = subst (λ (R : Phrase). Gives R (Whole qs b)) e (subst (λ zs. Gives P (Whole zs b)) f (subst (λ z. Gives P (Whole ps z)) g h))

spans_give : {P : Phrase} {A : Type 0} (s : _) → Gives P A → Gives (Spans s P) A
spans_give s f = record { gives = λ ts h. f.gives ts h.0 }

expr_gives : (e : Expr) → ExprWhole e
expr_gives = expr_law FormWhole ExprWhole FieldWhole in_form in_expr in_field
  where
    in_form : (y : ExprLayer FormWhole ExprWhole FieldWhole) → FormWhole (roll-EForm (parts y))
    in_form y = gives_same (sym (form_by SpeltPattern (parts y))) (sym (fold-roll-EForm Patterns Patterns Patterns eform_patterns (λ x. x.form) (λ x. x.value) (parts y))) (sym (para-roll-EForm Bool Bool Bool eform_whole (λ x. x.form.1) (λ x. x.value.1) (parts y))) (layer y)

    in_expr : (e : Expr) → FormWhole e.form → ExprWhole e
    in_expr e h = gives_same (sym (expr_by SpeltPattern e)) (sym (fold-roll-Expr Patterns Patterns Patterns eform_patterns (λ x. x.form) (λ x. x.value) (record { span = e.span; form = e.form }))) (sym (para-roll-Expr Bool Bool Bool eform_whole (λ x. x.form.1) (λ x. x.value.1) (record { span = e.span; form = e.form }))) (spans_give e.span h)

    in_field : (n : NewField) → ExprWhole n.value → FieldWhole n
    in_field n h = gives_same (sym (field_by SpeltPattern n)) (sym (fold-roll-NewField Patterns Patterns Patterns eform_patterns (λ x. x.form) (λ x. x.value) (record { name = n.name; value = n.value }))) (sym (field_whole_is n)) (gives_right (gives_right h))

any_gives : (v : Option Expr) → Gives (Perhaps SpeltExpr v) (Whole (any_patterns expr_patterns v) (any_whole v))
any_gives None = sure
any_gives (Some e) = expr_gives e

-- Statements

target_gives : (e : Expr) → Gives (SpeltTarget e) (Whole (expr_patterns e) (expr_whole e))
target_gives e = gives_given (expr_gives e)

parens_give : (e : Expr) → Gives (SpeltParens e) (Whole (expr_patterns e) (expr_whole e))
parens_give e = gives_right (gives_left (expr_gives e))

value_gives : (d : Declared) → Gives (SpeltDeclared d) (Whole (declared_patterns d) (declared_whole d))
value_gives d = gives_right (go d.value)
  where
    go : (v : Option Expr) → Gives (Perhaps (λ value. Sign mark.Assign ▸ SpeltExpr value) v) (Whole (any_patterns expr_patterns v) (any_whole v))
    go None = sure
    go (Some e) = gives_right (expr_gives e)

abbrev AllDeclared : List Declared → Type 0
AllDeclared ds = Whole (flat_map declared_patterns ds) (list_all declared_whole ds)

values_behind : (S : Phrase) (ds : List Declared) → Gives (Behind S SpeltDeclared ds) (AllDeclared ds)
values_behind S [] = sure
values_behind S (d ∷ ds) = gives_right (gives_both both_whole (value_gives d) (values_behind S ds))

values_between : (S : Phrase) (ds : List Declared) → Gives (Between S SpeltDeclared ds) (AllDeclared ds)
values_between S [] = sure
values_between S (d ∷ ds) = gives_both both_whole (value_gives d) (values_behind S ds)

step_gives : (kind : StepKind) (x : Expr) (by : Option Expr) → Gives (SpeltStep kind x by) (Whole (expr_patterns x ++ any_patterns expr_patterns by) (expr_whole x && any_whole by))
step_gives step.PostInc x None = gives_map alone_whole (gives_left (target_gives x))
step_gives step.PostDec x None = gives_map alone_whole (gives_left (target_gives x))
step_gives step.PreInc x None = gives_map alone_whole (gives_right (target_gives x))
step_gives step.PreDec x None = gives_map alone_whole (gives_right (target_gives x))
step_gives step.Add x (Some e) = gives_both both_whole (target_gives x) (gives_right (expr_gives e))
step_gives step.Sub x (Some e) = gives_both both_whole (target_gives x) (gives_right (expr_gives e))
step_gives step.PostInc x (Some e) = record { gives = λ ts h. absurd h }
step_gives step.PostDec x (Some e) = record { gives = λ ts h. absurd h }
step_gives step.PreInc x (Some e) = record { gives = λ ts h. absurd h }
step_gives step.PreDec x (Some e) = record { gives = λ ts h. absurd h }
step_gives step.Add x None = record { gives = λ ts h. absurd h }
step_gives step.Sub x None = record { gives = λ ts h. absurd h }

abbrev act_held : Form → Patterns
act_held = fold-Form Patterns Patterns form_patterns (λ s. s.form)

abbrev ActGives : Form → Type 0
ActGives f = (role : Role) → Gives (SpeltForm f role) (Whole (act_held f) (act_whole f))

abbrev StmtGives : Stmt → Type 0
StmtGives s = (role : Role) → Gives (SpeltStmt s role) (Whole (stmt_patterns s) (stmt_whole s))

abbrev Told : Type 0
Told = (s : Stmt) × StmtGives s

abbrev acts : StmtLayer ActGives StmtGives → F.Form-F Form Stmt
acts y = stmt_parts ActGives StmtGives y

abbrev tolds : List Told → List Stmt
tolds qs = map (λ (q : Told). q.0) qs

each_gives : (qs : List Told) → Gives (Each (λ s. SpeltStmt s InBlock) (tolds qs)) (Whole (join (map stmt_patterns (tolds qs))) (list_all is_yes (map stmt_whole (tolds qs))))
each_gives [] = sure
each_gives (q ∷ qs) = gives_both both_whole (q.1 InBlock) (each_gives qs)

act_layer : (y : StmtLayer ActGives StmtGives) (role : Role) → Gives (FormLayer (acts y) role) (Whole (form_patterns (map-Form Form Stmt Patterns Patterns act_held stmt_patterns (acts y))) (form_whole (map-Form Form Stmt Bool Bool act_whole stmt_whole (acts y))))
act_layer (F.Block ss) role = gives_given (gives_right (gives_left (each_gives ss)))
act_layer F.Empty role = sure
act_layer (F.Declare y ds) role = gives_given (gives_right (gives_left (gives_map (last_whole (ty_patterns y)) (values_between _ ds))))
act_layer (F.Assign x e) role = gives_both both_whole (target_gives x) (gives_right (gives_left (expr_gives e)))
act_layer (F.Call e) role = gives_given (gives_given (gives_left (expr_gives e)))
act_layer (F.Step kind x by) role = gives_given (gives_left (step_gives kind x by))
act_layer (F.If c a None) role = gives_given (gives_map (joined (expr_patterns c) (stmt_patterns a.0) []) (gives_right (gives_both both_whole (parens_give c) (gives_left (gives_map alone_whole (a.1 AsBody))))))
act_layer (F.If c a (Some b)) role = gives_given (gives_map (joined (expr_patterns c) (stmt_patterns a.0) (stmt_patterns b.0)) (gives_right (gives_both both_whole (parens_give c) (gives_both both_whole (a.1 AsBody) (gives_right (b.1 AsBody))))))
act_layer (F.While c a) role = gives_given (gives_right (gives_both both_whole (parens_give c) (a.1 AsBody)))
act_layer (F.For a c n b) role =
    gives_given
    (gives_map (λ w. joined (stmt_patterns a.0 ++ expr_patterns c) (stmt_patterns n.0) (stmt_patterns b.0) (joined (stmt_patterns a.0) (expr_patterns c) (stmt_patterns n.0 ++ stmt_patterns b.0) w))
    (gives_right (gives_right
    (gives_both both_whole (a.1 AsFirst) (gives_right
    (gives_both both_whole (expr_gives c) (gives_right
    (gives_both both_whole (n.1 AsNext) (gives_right (b.1 AsBody))))))))))
act_layer (F.Return v) role = gives_given (gives_right (gives_left (any_gives v)))
act_layer (F.Assert e) role = gives_given (gives_right (gives_left (expr_gives e)))
act_layer (F.Assume e) role = gives_given (gives_right (gives_left (expr_gives e)))
act_layer (F.Minimize e) role = gives_given (gives_right (gives_left (parens_give e)))
act_layer (F.Repeat c a) role = gives_given (gives_right (gives_both both_whole (parens_give c) (a.1 AsBody)))
act_layer (F.MinRepeat a) role = gives_given (gives_right (a.1 AsBody))
act_layer (F.Reorder ss) role = gives_given (gives_right (gives_right (gives_left (each_gives ss))))

stmt_gives : (s : Stmt) → StmtGives s
stmt_gives = stmt_law ActGives StmtGives in_form in_stmt
  where
    in_form : (y : StmtLayer ActGives StmtGives) → ActGives (roll-Form (acts y))
    in_form y role = gives_same (ap (λ (R : Role → Phrase). R role) (sym (form_is (acts y)))) (sym (fold-roll-Form Patterns Patterns form_patterns (λ s. s.form) (acts y))) (sym (act_whole_is (acts y))) (act_layer y role)

    in_stmt : (s : Stmt) → ActGives s.form → StmtGives s
    in_stmt s h role = gives_same (ap (λ (R : Role → Phrase). R role) (sym (stmt_is s))) (sym (fold-roll-Stmt Patterns Patterns form_patterns (λ s. s.form) (record { span = s.span; form = s.form }))) (sym (stmt_whole_is s)) (spans_give s.span (h role))

-- Items

body_gives : (ss : List Stmt) → Gives (Each (λ s. SpeltStmt s InBlock) ss) (Whole (flat_map stmt_patterns ss) (list_all stmt_whole ss))
body_gives [] = sure
body_gives (s ∷ ss) = gives_both both_whole (stmt_gives s InBlock) (body_gives ss)

item_gives : (i : Item) → Gives (SpeltItem i) (Whole (item_patterns i) (item_whole i))
item_gives (item.Pragma word text) = sure
item_gives (item.Struct x fields) = sure
item_gives (item.Const x e) = gives_right (gives_right (gives_right (gives_left (expr_gives e))))
item_gives (item.Fun f) =
    gives_right (gives_right (gives_right (gives_right (gives_right (gives_right (gives_right (gives_right (gives_left
    (gives_map (joined (any_patterns ty_patterns f.result) (flat_map param_patterns f.params) (flat_map stmt_patterns f.body)) (gives_map (last_whole (any_patterns ty_patterns f.result)) (gives_map (last_whole (flat_map param_patterns f.params)) (body_gives f.body))))))))))))

items_give : (is : List Item) → Gives (Each SpeltItem is) (Whole (flat_map item_patterns is) (list_all item_whole is))
items_give [] = sure
items_give (i ∷ is) = gives_both both_whole (item_gives i) (items_give is)

-- Trees

all_clean : (ps : Patterns) → ((p : Pattern) → Contains ps p → Clean p) → AllClean ps
all_clean [] h = tt
all_clean (p ∷ ps) h = (h p (0, omega arith, refl), all_clean ps (λ q c. h q (suc c.0, omega (arith, c.1), c.2)))

pub tree_whole : (tree : Tree) (tokens : List Token) → SpeltTree tree tokens → (HasTooManyStrings tree → ⊥) → (HasBadAlternative tree → ⊥) → list_all item_whole tree.items ≡ true
tree_whole tree tokens spelt few good =
    ((items_give tree.items).gives tokens spelt).whole (all_clean (patterns_of tree) (λ p c. record { few = λ many. few (p, c, many); good = λ bad. good (p, c, bad) }))
