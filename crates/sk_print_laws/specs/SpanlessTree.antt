-- A tree without its spans, in patterns too: two trees are the same where they differ in spans alone.
use Rattle.std.specs.Prelude.{map, Option, Some, None}
use Rattle.sk_tree.specs.declared.token.Token.{Token}
use Rattle.sk_tree.specs.declared.pattern.Pattern.{Pattern}
use Rattle.sk_tree.specs.declared.pattern.Pattern.TheOpen as P
use Rattle.sk_tree.specs.declared.pattern.Pattern.TheViews.{roll-Pattern}
use Rattle.sk_tree.specs.declared.pattern.Pattern.TheFolds.{fold-Pattern}
use Rattle.sk_tree.specs.declared.expr.Expr.{Expr}
use Rattle.sk_tree.specs.declared.expr.EForm.{EForm}
use Rattle.sk_tree.specs.declared.expr.NewField.{NewField}
use Rattle.sk_tree.specs.declared.expr.EForm.TheOpen as E
use Rattle.sk_tree.specs.declared.expr.EForm.TheViews.{roll-EForm}
use Rattle.sk_tree.specs.declared.expr.EForm.TheFolds.{fold-Expr}
use Rattle.sk_tree.specs.declared.stmt.Stmt.{Stmt}
use Rattle.sk_tree.specs.declared.stmt.Form.{Form}
use Rattle.sk_tree.specs.declared.stmt.Form.TheOpen as F
use Rattle.sk_tree.specs.declared.stmt.Form.TheViews.{roll-Form}
use Rattle.sk_tree.specs.declared.stmt.Form.TheFolds.{fold-Stmt}
use Rattle.sk_tree.specs.declared.stmt.Declared.{Declared}
use Rattle.sk_tree.specs.declared.item.TyTree.{TyTree}
use Rattle.sk_tree.specs.declared.item.Field.{Field}
use Rattle.sk_tree.specs.declared.item.Param.{Param}
use Rattle.sk_tree.specs.declared.item.FunItem.{FunItem}
use Rattle.sk_tree.specs.declared.item.Item.{Item}
use Rattle.sk_tree.specs.declared.item.Item.TheVariants as item
use Rattle.sk_tree.specs.declared.item.Tree.{Tree}
use Rattle.sk_types_rules.specs.Erase.{nowhere}

abbrev pub token_nowhere : Token → Token
token_nowhere t = record { kind = t.kind; span = nowhere }

abbrev pub part_spanless : P.Pattern-F Pattern → Pattern
part_spanless (P.One t) = roll-Pattern (P.One (token_nowhere t))
part_spanless (P.Choice ps) = roll-Pattern (P.Choice ps)
part_spanless (P.Seq ps) = roll-Pattern (P.Seq ps)
part_spanless (P.Maybe p) = roll-Pattern (P.Maybe p)
part_spanless (P.Group p) = roll-Pattern (P.Group p)

abbrev pub spanless_pattern : Pattern → Pattern
spanless_pattern = fold-Pattern Pattern part_spanless

abbrev pub parts_spanless : E.EForm-F EForm Expr NewField → E.EForm-F EForm Expr NewField
parts_spanless (E.Pattern pattern strings) = E.Pattern (spanless_pattern pattern) strings
parts_spanless l = l

abbrev pub expr_nowhere : E.Expr-F EForm Expr NewField → Expr
expr_nowhere x = record { span = nowhere; form = x.form }

abbrev pub field_again : E.NewField-F EForm Expr NewField → NewField
field_again x = record { name = x.name; value = x.value }

-- an expression with no span in place of each of its spans
abbrev pub spanless_expr : Expr → Expr
spanless_expr = fold-Expr EForm Expr NewField (λ l. roll-EForm (parts_spanless l)) expr_nowhere field_again

abbrev pub any_spanless : Option Expr → Option Expr
any_spanless None = None
any_spanless (Some e) = Some (spanless_expr e)

abbrev pub spanless_ty : TyTree → TyTree
spanless_ty y = record { base = y.base; lengths = map spanless_expr y.lengths }

abbrev pub any_spanless_ty : Option TyTree → Option TyTree
any_spanless_ty None = None
any_spanless_ty (Some y) = Some (spanless_ty y)

abbrev pub spanless_declared : Declared → Declared
spanless_declared d = record { name = d.name; value = any_spanless d.value }

abbrev pub acts_spanless : F.Form-F Form Stmt → F.Form-F Form Stmt
acts_spanless (F.Block ss) = F.Block ss
acts_spanless F.Empty = F.Empty
acts_spanless (F.Declare y ds) = F.Declare (spanless_ty y) (map spanless_declared ds)
acts_spanless (F.Assign target value) = F.Assign (spanless_expr target) (spanless_expr value)
acts_spanless (F.Call e) = F.Call (spanless_expr e)
acts_spanless (F.Step kind target by) = F.Step kind (spanless_expr target) (any_spanless by)
acts_spanless (F.If c a b) = F.If (spanless_expr c) a b
acts_spanless (F.While c a) = F.While (spanless_expr c) a
acts_spanless (F.For a c n body) = F.For a (spanless_expr c) n body
acts_spanless (F.Return e) = F.Return (any_spanless e)
acts_spanless (F.Assert e) = F.Assert (spanless_expr e)
acts_spanless (F.Assume e) = F.Assume (spanless_expr e)
acts_spanless (F.Minimize e) = F.Minimize (spanless_expr e)
acts_spanless (F.Repeat c a) = F.Repeat (spanless_expr c) a
acts_spanless (F.MinRepeat a) = F.MinRepeat a
acts_spanless (F.Reorder ss) = F.Reorder ss

abbrev pub stmt_nowhere : F.Stmt-F Form Stmt → Stmt
stmt_nowhere x = record { span = nowhere; form = x.form }

abbrev pub spanless_stmt : Stmt → Stmt
spanless_stmt = fold-Stmt Form Stmt (λ l. roll-Form (acts_spanless l)) stmt_nowhere

abbrev pub spanless_field : Field → Field
spanless_field d = record { ty = spanless_ty d.ty; name = d.name }

abbrev pub spanless_param : Param → Param
spanless_param p = record { by_ref = p.by_ref; ty = spanless_ty p.ty; name = p.name }

abbrev pub spanless_fun : FunItem → FunItem
spanless_fun f = record { kind = f.kind; result = any_spanless_ty f.result; name = f.name; params = map spanless_param f.params; implements = f.implements; body = map spanless_stmt f.body }

abbrev pub spanless_item : Item → Item
spanless_item (item.Pragma word text) = item.Pragma word text
spanless_item (item.Struct x fields) = item.Struct x (map spanless_field fields)
spanless_item (item.Const x e) = item.Const x (spanless_expr e)
spanless_item (item.Fun f) = item.Fun (spanless_fun f)

-- a tree with no span in place of each of its spans
abbrev pub spanless_tree : Tree → Tree
spanless_tree tree = record { items = map spanless_item tree.items }
