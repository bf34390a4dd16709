-- The plain form of a tree has the names of the tree.
use Rattle.std.proofs.Common.{◌≡◌, Bool, true, List, [], ◌∷◌, ◌++◌, Option, Some, None, refl, sym, ap, subst, ◌∙◌}
use Rattle.std.specs.Prelude.{◌&&◌, map}
use Rattle.std.specs.List.{list_all}
use Rattle.std.proofs.lemmas.List.Folds.{list_all-map, list_all-append}
use Rattle.sk_base.specs.declared.span.Span.{Span}
use Rattle.sk_tree.specs.declared.expr.Expr.{Expr}
use Rattle.sk_tree.specs.declared.expr.EForm.{EForm}
use Rattle.sk_tree.specs.declared.expr.EForm.TheVariants as eform
use Rattle.sk_tree.specs.declared.expr.EForm.TheOpen as E
use Rattle.sk_tree.specs.declared.expr.EForm.TheViews.{roll-EForm}
use Rattle.sk_tree.specs.declared.expr.EForm.TheFolds.{map-EForm, fold-roll-EForm}
use Rattle.sk_tree.specs.declared.expr.NewField.{NewField}
use Rattle.sk_tree.specs.declared.stmt.Stmt.{Stmt}
use Rattle.sk_tree.specs.declared.stmt.Form.{Form}
use Rattle.sk_tree.specs.declared.stmt.Form.TheVariants as form
use Rattle.sk_tree.specs.declared.stmt.Form.TheOpen as F
use Rattle.sk_tree.specs.declared.stmt.Form.TheViews.{roll-Form, roll-Stmt}
use Rattle.sk_tree.specs.declared.stmt.Form.TheFolds.{map-Form, fold-Form, fold-roll-Form, fold-roll-Stmt, ind-Stmt}
use Rattle.sk_tree.specs.declared.stmt.Declared.{Declared}
use Rattle.sk_tree.specs.declared.stmt.StepKind.{StepKind}
use Rattle.sk_tree.specs.declared.item.TyTree.{TyTree}
use Rattle.sk_tree.specs.declared.item.FunItem.{FunItem}
use Rattle.sk_tree.specs.declared.item.Item.{Item}
use Rattle.sk_tree.specs.declared.item.Item.TheVariants as item
use Rattle.sk_tree.specs.Names.{is_yes, eform_names, any_name, any_names, any_ty_names, ty_names, declared_names, param_names, form_names, item_names}
use Rattle.sk_prog.specs.Fits.{is_name}
use Rattle.sk_types_rules.specs.Plain.{step_mark, expr_at, step_by, stepped, stmt_at, Plainly, all_made, a_block, in_block, one, declared_alone, form_plain, plainly, plain_stmt, plain_stmts, plain_fun, plain_items}
use Rattle.sk_types_laws.proofs.Ats.{both_true, both}
use Rattle.sk_types_fit_laws.proofs.Exprs.{named, field_named, named_is}
use Rattle.sk_types_fit_laws.proofs.Exprs.{form_named as eform_named}
use Rattle.sk_types_fit_laws.proofs.Stmts.{stmt_named, form_named, stmt_named_is, names_in}

-- what is built of named parts is named

built : (s : Span) (g : Form) (l : F.Form-F Form Stmt) → roll-Form l ≡ g → form_names is_name (map-Form Form Stmt Bool Bool form_named stmt_named l) ≡ true → stmt_named (stmt_at s g) ≡ true
built s g l is h = stmt_named_is (stmt_at s g) ∙ ap form_named (sym is) ∙ fold-roll-Form Bool Bool (form_names is_name) (λ s. s.form) l ∙ h

built_expr : (s : Span) (g : EForm) (l : E.EForm-F EForm Expr NewField) → roll-EForm l ≡ g → eform_names is_name (map-EForm EForm Expr NewField Bool Bool Bool eform_named named field_named l) ≡ true → named (expr_at s g) ≡ true
built_expr s g l is h = named_is (expr_at s g) ∙ ap eform_named (sym is) ∙ fold-roll-EForm Bool Bool Bool (eform_names is_name) (λ x. x.form) (λ x. is_name x.name && x.value) l ∙ h

yes : (es : List Stmt) → list_all stmt_named es ≡ true → list_all is_yes (map stmt_named es) ≡ true
yes es h = list_all-map is_yes stmt_named es ∙ h

block_named : (s : Span) (es : List Stmt) → list_all stmt_named es ≡ true → stmt_named (stmt_at s (form.Block es)) ≡ true
block_named s es h = built s (form.Block es) (F.Block es) (form.rolls-Block es) (yes es h)

pub record Named (p : Plainly) : Type 0 where
  pub made : list_all stmt_named p.made ≡ true
  pub body : stmt_named p.body ≡ true

a_block_named : (s : Span) (es : List Stmt) → list_all stmt_named es ≡ true → Named (a_block s es)
a_block_named s es h = record { made = both _ _ (block_named s es h) refl; body = block_named s es h }

in_block_named : (s : Span) (es : List Stmt) → list_all stmt_named es ≡ true → Named (in_block s es)
in_block_named s es h = record { made = h; body = block_named s es h }

one_named : (s : Span) (g : Form) (l : F.Form-F Form Stmt) → roll-Form l ≡ g → form_names is_name (map-Form Form Stmt Bool Bool form_named stmt_named l) ≡ true → Named (one s g)
one_named s g l is h = in_block_named s (stmt_at s g ∷ []) (both _ _ (built s g l is h) refl)

append_named : (es ds : List Stmt) → list_all stmt_named es ≡ true → list_all stmt_named ds ≡ true → list_all stmt_named (es ++ ds) ≡ true
append_named es ds h k = list_all-append stmt_named es ds ∙ both _ _ h k

-- Steps

step_by_named : (s : Span) (by : Option Expr) → any_names is_name by ≡ true → named (step_by s by) ≡ true
step_by_named s None h = built_expr s (eform.Number 1) (E.Number 1) (eform.rolls-Number 1) refl
step_by_named s (Some e) h = built_expr s (eform.Paren e) (E.Paren e) (eform.rolls-Paren e) h

stepped_named : (kind : StepKind) (s : Span) (target : Expr) (by : Option Expr) → named target ≡ true → any_names is_name by ≡ true → named (stepped kind s target by) ≡ true
stepped_named kind s target by h k = built_expr s (eform.Binary (step_mark kind) target (step_by s by)) (E.Binary (step_mark kind) target (step_by s by)) (eform.rolls-Binary (step_mark kind) target (step_by s by)) (both _ _ h (step_by_named s by k))

declared_named : (s : Span) (y : TyTree) (ds : List Declared) → ty_names is_name y ≡ true → list_all (declared_names is_name) ds ≡ true → list_all stmt_named (declared_alone s (λ d. form.Declare y (d ∷ [])) ds) ≡ true
declared_named s y [] h k = refl
declared_named s y (d ∷ ds) h k =
    let j = both_true (declared_names is_name d) (list_all (declared_names is_name) ds) k in
    both _ _ (built s (form.Declare y (d ∷ [])) (F.Declare y (d ∷ [])) (form.rolls-Declare y (d ∷ [])) (both _ _ h (both _ _ j.0 refl))) (declared_named s y ds h j.1)

-- Statements

abbrev form_plainly : Form → Span → Plainly
form_plainly = fold-Form (Span → Plainly) Plainly form_plain (λ s. s.form s.span)

abbrev FormKeeps : Form → Type 0
FormKeeps f = (s : Span) → form_named f ≡ true → Named (form_plainly f s)

abbrev StmtKeeps : Stmt → Type 0
StmtKeeps e = stmt_named e ≡ true → Named (plainly e)

abbrev Kept : Type 0
Kept = (e : Stmt) × StmtKeeps e

abbrev parts : F.Form-F ((f : Form) × FormKeeps f) Kept → F.Form-F Form Stmt
parts y = map-Form ((f : Form) × FormKeeps f) Kept Form Stmt (λ q. q.0) (λ q. q.0) y

all_named : (qs : List Kept) → list_all is_yes (map stmt_named (map (λ (q : Kept). q.0) qs)) ≡ true → list_all stmt_named (all_made (map plainly (map (λ (q : Kept). q.0) qs))) ≡ true
all_named [] h = refl
all_named (q ∷ qs) h =
    let k = both_true (stmt_named q.0) (list_all is_yes (map stmt_named (map (λ (q : Kept). q.0) qs))) h in
    append_named (plainly q.0).made (all_made (map plainly (map (λ (q : Kept). q.0) qs))) (q.1 k.0).made (all_named qs k.1)

layer : (y : F.Form-F ((f : Form) × FormKeeps f) Kept) (s : Span) → form_names is_name (map-Form Form Stmt Bool Bool form_named stmt_named (parts y)) ≡ true → Named (form_plain (map-Form Form Stmt (Span → Plainly) Plainly form_plainly plainly (parts y)) s)
layer (F.Block qs) s n = a_block_named s _ (all_named qs n)
layer F.Empty s n = in_block_named s [] refl
layer (F.Declare y ds) s n = let k = both_true (ty_names is_name y) (list_all (declared_names is_name) ds) n in in_block_named s _ (declared_named s y ds k.0 k.1)
layer (F.Assign x e) s n = one_named s (form.Assign x e) (F.Assign x e) (form.rolls-Assign x e) n
layer (F.Call e) s n = one_named s (form.Call e) (F.Call e) (form.rolls-Call e) n
layer (F.Step kind x by) s n =
    let k = both_true (named x) (any_names is_name by) n in
    one_named s (form.Assign x (stepped kind s x by)) (F.Assign x (stepped kind s x by)) (form.rolls-Assign x (stepped kind s x by)) (both _ _ k.0 (stepped_named kind s x by k.0 k.1))
layer (F.If c a None) s n =
    let k = both_true _ _ n in
    let j = both_true _ _ k.1 in
    one_named s _ (F.If c (plainly a.0).body None) (form.rolls-If c (plainly a.0).body None) (both _ _ k.0 (both _ _ (a.1 j.0).body refl))
layer (F.If c a (Some b)) s n =
    let k = both_true _ _ n in
    let j = both_true _ _ k.1 in
    one_named s _ (F.If c (plainly a.0).body (Some (plainly b.0).body)) (form.rolls-If c (plainly a.0).body (Some (plainly b.0).body)) (both _ _ k.0 (both _ _ (a.1 j.0).body (b.1 j.1).body))
layer (F.While c a) s n = let k = both_true _ _ n in one_named s _ (F.While c (plainly a.0).body) (form.rolls-While c (plainly a.0).body) (both _ _ k.0 (a.1 k.1).body)
layer (F.For a c x b) s n =
    let k = both_true _ _ n in
    let j = both_true _ _ k.1 in
    let i = both_true _ _ j.1 in
    let inner = (plainly b.0).body ∷ (plainly x.0).made in
    let inner_named : list_all stmt_named inner ≡ true = both _ _ (b.1 i.1).body (x.1 i.0).made in
    let loop = form.While c (stmt_at s (form.Block inner)) in
    let loop_named : stmt_named (stmt_at s loop) ≡ true = built s loop (F.While c (stmt_at s (form.Block inner))) (form.rolls-While c (stmt_at s (form.Block inner))) (both _ _ j.0 (block_named s inner inner_named)) in
    a_block_named s ((plainly a.0).made ++ stmt_at s loop ∷ []) (append_named (plainly a.0).made (stmt_at s loop ∷ []) (a.1 k.0).made (both _ _ loop_named refl))
layer (F.Return v) s n = one_named s (form.Return v) (F.Return v) (form.rolls-Return v) n
layer (F.Assert e) s n = one_named s (form.Assert e) (F.Assert e) (form.rolls-Assert e) n
layer (F.Assume e) s n = one_named s (form.Assume e) (F.Assume e) (form.rolls-Assume e) n
layer (F.Minimize e) s n = one_named s (form.Minimize e) (F.Minimize e) (form.rolls-Minimize e) n
layer (F.Repeat c a) s n = let k = both_true _ _ n in one_named s _ (F.Repeat c (plainly a.0).body) (form.rolls-Repeat c (plainly a.0).body) (both _ _ k.0 (a.1 k.1).body)
layer (F.MinRepeat a) s n = one_named s _ (F.MinRepeat (plainly a.0).body) (form.rolls-MinRepeat (plainly a.0).body) (a.1 n).body
layer (F.Reorder qs) s n = one_named s _ (F.Reorder (all_made (map plainly (map (λ (q : Kept). q.0) qs)))) (form.rolls-Reorder _) (yes _ (all_named qs n))

keeps : (e : Stmt) → StmtKeeps e
keeps = ind-Stmt FormKeeps StmtKeeps
    (λ x y is. subst (λ z. FormKeeps (roll-Form z)) is (form_keeps y))
    (λ x y is. subst (λ z. StmtKeeps (roll-Stmt z)) is (stmt_keeps (record { span = y.span; form = y.form.0 }) y.form.1))
  where
    form_keeps : (y : F.Form-F ((f : Form) × FormKeeps f) Kept) → FormKeeps (roll-Form (parts y))
    form_keeps y s n = subst Named (λ i. sym (fold-roll-Form (Span → Plainly) Plainly form_plain (λ s. s.form s.span) (parts y)) i s) (layer y s (names_in (roll-Form (parts y)) (roll-Form (parts y)) (parts y) refl refl n))

    stmt_keeps : (e : Stmt) → FormKeeps e.form → StmtKeeps e
    stmt_keeps e h n = subst Named (sym (fold-roll-Stmt (Span → Plainly) Plainly form_plain (λ s. s.form s.span) (record { span = e.span; form = e.form }))) (h e.span (sym (stmt_named_is e) ∙ n))

stmts_keep : (es : List Stmt) → list_all stmt_named es ≡ true → list_all stmt_named (plain_stmts es) ≡ true
stmts_keep [] h = refl
stmts_keep (e ∷ es) h = let k = both_true (stmt_named e) (list_all stmt_named es) h in append_named (plain_stmt e) (plain_stmts es) (keeps e k.0).made (stmts_keep es k.1)

fun_keeps : (g : FunItem) → item_names is_name (item.Fun g) ≡ true → item_names is_name (item.Fun (plain_fun g)) ≡ true
fun_keeps g h =
    let result = both_true (any_ty_names is_name g.result) (is_name g.name && (list_all (param_names is_name) g.params && (any_name is_name g.implements && list_all stmt_named g.body))) h in
    let name = both_true (is_name g.name) (list_all (param_names is_name) g.params && (any_name is_name g.implements && list_all stmt_named g.body)) result.1 in
    let params = both_true (list_all (param_names is_name) g.params) (any_name is_name g.implements && list_all stmt_named g.body) name.1 in
    let implements = both_true (any_name is_name g.implements) (list_all stmt_named g.body) params.1 in
    both _ _ result.0 (both _ _ name.0 (both _ _ params.0 (both _ _ implements.0 (stmts_keep g.body implements.1))))

-- the names of the items of the plain form
pub items_keep : (is : List Item) → list_all (item_names is_name) is ≡ true → list_all (item_names is_name) (plain_items is) ≡ true
items_keep [] h = refl
items_keep (item.Pragma word text ∷ is) h = items_keep is ((both_true (item_names is_name (item.Pragma word text)) (list_all (item_names is_name) is) h).1)
items_keep (item.Struct x ys ∷ is) h = let k = both_true (item_names is_name (item.Struct x ys)) (list_all (item_names is_name) is) h in both _ _ k.0 (items_keep is k.1)
items_keep (item.Const x e ∷ is) h = let k = both_true (item_names is_name (item.Const x e)) (list_all (item_names is_name) is) h in both _ _ k.0 (items_keep is k.1)
items_keep (item.Fun g ∷ is) h = let k = both_true (item_names is_name (item.Fun g)) (list_all (item_names is_name) is) h in both _ _ (fun_keeps g k.0) (items_keep is k.1)
