-- How deep a tree is: a node is one deeper than the deepest of its parts. Each tree, item, field, parameter,
-- function, type, statement, declared name, expression, field of `new` and part of a pattern is a node; tokens,
-- names and lists are none. The strings of a pattern are no parts of it.
use Rattle.std.specs.Prelude.{ℕ, suc, max, List, [], ◌∷◌, map, Option, Some, None}
use Rattle.sk_tree.specs.declared.pattern.Pattern.{Pattern}
use Rattle.sk_tree.specs.declared.pattern.Pattern.TheOpen as P
use Rattle.sk_tree.specs.declared.pattern.Pattern.TheFolds.{fold-Pattern}
use Rattle.sk_tree.specs.declared.expr.Expr.{Expr}
use Rattle.sk_tree.specs.declared.expr.EForm.TheOpen as E
use Rattle.sk_tree.specs.declared.expr.EForm.TheFolds.{fold-Expr}
use Rattle.sk_tree.specs.declared.stmt.Stmt.{Stmt}
use Rattle.sk_tree.specs.declared.stmt.Form.TheOpen as F
use Rattle.sk_tree.specs.declared.stmt.Form.TheFolds.{fold-Stmt}
use Rattle.sk_tree.specs.declared.stmt.Declared.{Declared}
use Rattle.sk_tree.specs.declared.item.TyTree.{TyTree}
use Rattle.sk_tree.specs.declared.item.Field.{Field}
use Rattle.sk_tree.specs.declared.item.Param.{Param}
use Rattle.sk_tree.specs.declared.item.FunItem.{FunItem}
use Rattle.sk_tree.specs.declared.item.Item.{Item}
use Rattle.sk_tree.specs.declared.item.Item.TheVariants as item
use Rattle.sk_tree.specs.declared.item.Tree.{Tree}

-- the greatest depth of a tree that is read, and of a string of a pattern
abbrev pub most_levels : ℕ
most_levels = 256

abbrev pub deepest : List ℕ → ℕ
deepest [] = 0
deepest (n ∷ ns) = max n (deepest ns)

abbrev pub any_depth : {A : Type 0} → (A → ℕ) → Option A → ℕ
any_depth depth None = 0
any_depth depth (Some a) = depth a

abbrev pub pattern_step_depth : P.Pattern-F ℕ → ℕ
pattern_step_depth (P.Choice ns) = suc (deepest ns)
pattern_step_depth (P.Seq ns) = suc (deepest ns)
pattern_step_depth (P.Maybe n) = suc n
pattern_step_depth (P.Group n) = suc n
pattern_step_depth (P.One t) = 1

abbrev pub pattern_depth : Pattern → ℕ
pattern_depth = fold-Pattern ℕ pattern_step_depth

-- An expression is one node: its form stands in it.
abbrev pub eform_depth : E.EForm-F ℕ ℕ ℕ → ℕ
eform_depth (E.Number n) = 0
eform_depth E.True = 0
eform_depth E.False = 0
eform_depth E.Null = 0
eform_depth (E.Word x) = 0
eform_depth (E.Hole width) = 0
eform_depth (E.Pattern pattern strings) = pattern_depth pattern
eform_depth (E.Paren e) = e
eform_depth (E.Call x args) = deepest args
eform_depth (E.New x fields) = deepest fields
eform_depth (E.Braces es) = deepest es
eform_depth (E.Member e x) = e
eform_depth (E.Index e i) = max e i
eform_depth (E.Slice e i n) = max e (max i n)
eform_depth (E.Unary op e) = e
eform_depth (E.Binary op a b) = max a b
eform_depth (E.Cond c a b) = max c (max a b)

abbrev pub expr_depth : Expr → ℕ
expr_depth = fold-Expr ℕ ℕ ℕ eform_depth (λ x. suc x.form) (λ x. suc x.value)

abbrev pub ty_depth : TyTree → ℕ
ty_depth ty = suc (deepest (map expr_depth ty.lengths))

abbrev pub declared_depth : Declared → ℕ
declared_depth d = suc (any_depth expr_depth d.value)

-- A statement is one node: its form stands in it.
abbrev pub form_depth : F.Form-F ℕ ℕ → ℕ
form_depth (F.Block ss) = deepest ss
form_depth F.Empty = 0
form_depth (F.Declare ty names) = max (ty_depth ty) (deepest (map declared_depth names))
form_depth (F.Assign target value) = max (expr_depth target) (expr_depth value)
form_depth (F.Call e) = expr_depth e
form_depth (F.Step kind target by) = max (expr_depth target) (any_depth expr_depth by)
form_depth (F.If c a b) = max (expr_depth c) (max a (any_depth (λ n. n) b))
form_depth (F.While c s) = max (expr_depth c) s
form_depth (F.For a c n s) = max a (max (expr_depth c) (max n s))
form_depth (F.Return value) = any_depth expr_depth value
form_depth (F.Assert e) = expr_depth e
form_depth (F.Assume e) = expr_depth e
form_depth (F.Minimize e) = expr_depth e
form_depth (F.Repeat c s) = max (expr_depth c) s
form_depth (F.MinRepeat s) = s
form_depth (F.Reorder ss) = deepest ss

abbrev pub stmt_depth : Stmt → ℕ
stmt_depth = fold-Stmt ℕ ℕ form_depth (λ s. suc s.form)

abbrev pub field_depth : Field → ℕ
field_depth d = suc (ty_depth d.ty)

abbrev pub param_depth : Param → ℕ
param_depth p = suc (ty_depth p.ty)

-- A function is a node, and the item that it is is another.
abbrev pub fun_depth : FunItem → ℕ
fun_depth f = suc (max (any_depth ty_depth f.result) (max (deepest (map param_depth f.params)) (deepest (map stmt_depth f.body))))

abbrev pub item_depth : Item → ℕ
item_depth (item.Pragma word text) = 1
item_depth (item.Struct x fields) = suc (deepest (map field_depth fields))
item_depth (item.Const x value) = suc (expr_depth value)
item_depth (item.Fun f) = suc (fun_depth f)

abbrev pub tree_depth : Tree → ℕ
tree_depth tree = suc (deepest (map item_depth tree.items))
