-- Where operands stand is not seen by spans.
use Rattle.std.proofs.Common.{◌≡◌, Bool, true, ◌&&◌, List, [], ◌∷◌, map, Option, Some, None, refl, sym, ap, ◌∙◌}
use Rattle.std.specs.List.{list_all}
use Rattle.sk_base.specs.declared.span.Span.{Span}
use Rattle.sk_tree.specs.declared.expr.Expr.{Expr}
use Rattle.sk_tree.specs.declared.stmt.Stmt.{Stmt}
use Rattle.sk_tree.specs.declared.stmt.Form.{Form}
use Rattle.sk_tree.specs.declared.stmt.Form.TheOpen as F
use Rattle.sk_tree.specs.declared.stmt.Form.TheViews.{roll-Form}
use Rattle.sk_tree.specs.declared.stmt.Form.TheFolds.{map-Form, fold-Form, fold-roll-Form, fold-roll-Stmt}
use Rattle.sk_tree.specs.declared.stmt.Declared.{Declared}
use Rattle.sk_tree.specs.declared.item.TyTree.{TyTree}
use Rattle.sk_tree.specs.declared.item.Field.{Field}
use Rattle.sk_tree.specs.declared.item.Param.{Param}
use Rattle.sk_tree.specs.declared.item.FunItem.{FunItem}
use Rattle.sk_tree.specs.declared.item.Item.{Item}
use Rattle.sk_tree.specs.declared.item.Item.TheVariants as item
use Rattle.sk_tree.specs.declared.item.Tree.{Tree}
use Rattle.sk_tree.specs.Placed.{Place, eform_place, field_placed, expr_placed, any_placed, ty_placed, declared_placed, Stand, closed, behind, if_stand, all_stand, form_stand, stand_of, stmt_placed, any_ty_placed, param_placed, struct_field_placed, fun_placed, item_placed, tree_placed}
use Rattle.sk_tree.proofs.Layers.{StmtLayer, stmt_parts, stmt_law}
use Rattle.sk_types_rules.specs.Erase.{nowhere}
use Rattle.sk_print_laws.specs.Printed.{of_form}
use Rattle.sk_print_laws.specs.SpanlessTree.{spanless_expr, any_spanless, spanless_ty, any_spanless_ty, spanless_declared, acts_spanless, stmt_nowhere, spanless_stmt, spanless_field, spanless_param, spanless_fun, spanless_item, spanless_tree}
use Rattle.sk_print_laws.proofs.Spanless.{fold_spanless}

expr_unseen : (e : Expr) → expr_placed (spanless_expr e) ≡ expr_placed e
expr_unseen e = ap (λ p. p.placed) (fold_spanless Place Place Bool eform_place (λ p. p) field_placed (λ g ss. refl) e)

any_unseen : (e : Option Expr) → any_placed (any_spanless e) ≡ any_placed e
any_unseen None = refl
any_unseen (Some e) = expr_unseen e

exprs_unseen : (es : List Expr) → list_all expr_placed (map spanless_expr es) ≡ list_all expr_placed es
exprs_unseen [] = refl
exprs_unseen (e ∷ es) = λ i. expr_unseen e i && exprs_unseen es i

ty_unseen : (y : TyTree) → ty_placed (spanless_ty y) ≡ ty_placed y
ty_unseen y = exprs_unseen y.lengths

declared_unseen : (ds : List Declared) → list_all declared_placed (map spanless_declared ds) ≡ list_all declared_placed ds
declared_unseen [] = refl
declared_unseen (d ∷ ds) = λ i. any_unseen d.value i && declared_unseen ds i

-- Statements

abbrev act_off : Form → Form
act_off = fold-Form Form Stmt (λ l. roll-Form (acts_spanless l)) stmt_nowhere

abbrev form_of : Form → Stand
form_of = fold-Form Stand Stand form_stand (λ s. s.form)

abbrev SameForm : Form → Type 0
SameForm f = form_of (act_off f) ≡ form_of f

abbrev SameStmt : Stmt → Type 0
SameStmt s = stand_of (spanless_stmt s) ≡ stand_of s

abbrev Acts : Type 0
Acts = F.Form-F Form Stmt

abbrev down : StmtLayer SameForm SameStmt → Acts
down y = stmt_parts SameForm SameStmt y

abbrev acts_off : Acts → Acts
acts_off l = acts_spanless (map-Form Form Stmt Form Stmt act_off spanless_stmt l)

abbrev stands : Acts → F.Form-F Stand Stand
stands l = map-Form Form Stmt Stand Stand form_of stand_of l

all_unseen : (qs : List ((s : Stmt) × SameStmt s)) → map stand_of (map spanless_stmt (map (λ (q : (s : Stmt) × SameStmt s). q.0) qs)) ≡ map stand_of (map (λ (q : (s : Stmt) × SameStmt s). q.0) qs)
all_unseen [] = refl
all_unseen (q ∷ qs) = λ i. q.1 i ∷ all_unseen qs i

layer : (y : StmtLayer SameForm SameStmt) → form_stand (stands (acts_off (down y))) ≡ form_stand (stands (down y))
layer (F.Block qs) = ap (λ ss. closed (all_stand ss)) (all_unseen qs)
layer F.Empty = refl
layer (F.Declare y ds) = λ i. closed (ty_unseen y i && declared_unseen ds i)
layer (F.Assign a e) = λ i. closed (expr_unseen a i && expr_unseen e i)
layer (F.Call e) = ap closed (expr_unseen e)
layer (F.Step k a by) = λ i. closed (expr_unseen a i && any_unseen by i)
layer (F.If c a None) = λ i. if_stand (expr_unseen c i) (a.1 i) None
layer (F.If c a (Some b)) = λ i. if_stand (expr_unseen c i) (a.1 i) (Some (b.1 i))
layer (F.While c a) = λ i. behind (expr_unseen c i) (a.1 i)
layer (F.For a c n b) = λ i. behind ((a.1 i).placed && expr_unseen c i && (n.1 i).placed) (b.1 i)
layer (F.Return e) = ap closed (any_unseen e)
layer (F.Assert e) = ap closed (expr_unseen e)
layer (F.Assume e) = ap closed (expr_unseen e)
layer (F.Minimize e) = ap closed (expr_unseen e)
layer (F.Repeat c a) = λ i. behind (expr_unseen c i) (a.1 i)
layer (F.MinRepeat a) = λ i. behind true (a.1 i)
layer (F.Reorder qs) = ap (λ ss. closed (all_stand ss)) (all_unseen qs)

form_is : (l : Acts) → form_of (roll-Form l) ≡ form_stand (stands l)
form_is l = fold-roll-Form Stand Stand form_stand (λ s. s.form) l

stmt_is : (s : Span) (f : Form) → stand_of (of_form s f) ≡ form_of f
stmt_is s f = fold-roll-Stmt Stand Stand form_stand (λ s. s.form) (record { span = s; form = f })

stmt_unseen : (s : Stmt) → SameStmt s
stmt_unseen = stmt_law SameForm SameStmt in_form in_stmt
  where
    in_form : (y : StmtLayer SameForm SameStmt) → SameForm (roll-Form (down y))
    in_form y = ap form_of (fold-roll-Form Form Stmt (λ l. roll-Form (acts_spanless l)) stmt_nowhere (down y)) ∙ form_is (acts_off (down y)) ∙ layer y ∙ sym (form_is (down y))

    in_stmt : (s : Stmt) → SameForm s.form → SameStmt s
    in_stmt s h = ap stand_of (fold-roll-Stmt Form Stmt (λ l. roll-Form (acts_spanless l)) stmt_nowhere (record { span = s.span; form = s.form })) ∙ stmt_is nowhere (act_off s.form) ∙ h ∙ sym (stmt_is s.span s.form)

-- Items

any_ty_unseen : (y : Option TyTree) → any_ty_placed (any_spanless_ty y) ≡ any_ty_placed y
any_ty_unseen None = refl
any_ty_unseen (Some y) = ty_unseen y

params_unseen : (ps : List Param) → list_all param_placed (map spanless_param ps) ≡ list_all param_placed ps
params_unseen [] = refl
params_unseen (p ∷ ps) = λ i. ty_unseen p.ty i && params_unseen ps i

fields_unseen : (ds : List Field) → list_all struct_field_placed (map spanless_field ds) ≡ list_all struct_field_placed ds
fields_unseen [] = refl
fields_unseen (d ∷ ds) = λ i. ty_unseen d.ty i && fields_unseen ds i

stmts_unseen : (ss : List Stmt) → list_all stmt_placed (map spanless_stmt ss) ≡ list_all stmt_placed ss
stmts_unseen [] = refl
stmts_unseen (s ∷ ss) = λ i. (stmt_unseen s i).placed && stmts_unseen ss i

fun_unseen : (f : FunItem) → fun_placed (spanless_fun f) ≡ fun_placed f
fun_unseen f = λ i. any_ty_unseen f.result i && params_unseen f.params i && stmts_unseen f.body i

item_unseen : (x : Item) → item_placed (spanless_item x) ≡ item_placed x
item_unseen (item.Pragma word text) = refl
item_unseen (item.Struct x fields) = fields_unseen fields
item_unseen (item.Const x e) = expr_unseen e
item_unseen (item.Fun f) = fun_unseen f

items_unseen : (xs : List Item) → list_all item_placed (map spanless_item xs) ≡ list_all item_placed xs
items_unseen [] = refl
items_unseen (x ∷ xs) = λ i. item_unseen x i && items_unseen xs i

tree_unseen : (tree : Tree) → tree_placed (spanless_tree tree) ≡ tree_placed tree
tree_unseen tree = items_unseen tree.items

pub placed_alike : (a b : Tree) → spanless_tree a ≡ spanless_tree b → tree_placed a ≡ tree_placed b
placed_alike a b e = sym (tree_unseen a) ∙ ap tree_placed e ∙ tree_unseen b
