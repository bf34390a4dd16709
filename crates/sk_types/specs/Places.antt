-- Which spans stand in a tree: those of its expressions and of its statements.
use Rattle.std.specs.Prelude.{◌≡◌, ◌⊎◌, nat_eq, Bool, false, ◌&&◌, ◌||◌, List, map, Option, Some, None, IsTrue}
use Rattle.std.specs.List.{list_any}
use Rattle.sk_base.specs.declared.span.Span.{Span}
use Rattle.sk_tree.specs.declared.expr.Expr.{Expr}
use Rattle.sk_tree.specs.declared.expr.EForm.{EForm}
use Rattle.sk_tree.specs.declared.expr.EForm.TheOpen as E
use Rattle.sk_tree.specs.declared.expr.EForm.TheFolds.{fold-Expr, fold-EForm, fold-NewField}
use Rattle.sk_tree.specs.declared.expr.NewField.{NewField}
use Rattle.sk_tree.specs.declared.stmt.Stmt.{Stmt}
use Rattle.sk_tree.specs.declared.stmt.Form.{Form}
use Rattle.sk_tree.specs.declared.stmt.Form.TheOpen as F
use Rattle.sk_tree.specs.declared.stmt.Form.TheFolds.{fold-Stmt, fold-Form}
use Rattle.sk_tree.specs.declared.stmt.Declared.{Declared}
use Rattle.sk_tree.specs.declared.item.TyTree.{TyTree}
use Rattle.sk_tree.specs.declared.item.Field.{Field}
use Rattle.sk_tree.specs.declared.item.Param.{Param}
use Rattle.sk_tree.specs.declared.item.FunItem.{FunItem}
use Rattle.sk_tree.specs.declared.item.Item.{Item}
use Rattle.sk_tree.specs.declared.item.Item.TheVariants as item
use Rattle.sk_tree.specs.declared.item.Tree.{Tree}
use Rattle.sk_types_rules.specs.Plain.{is_yes}
use Rattle.sk_types_laws.specs.declared.fault.Typing.{Typing}
use Rattle.sk_types_laws.specs.declared.fault.Typing.TheVariants.{Fault, Memory}

abbrev pub same_span : Span → Span → Bool
same_span a b = nat_eq a.from b.from && nat_eq a.to b.to

-- which is no place
abbrev pub nowhere : Span
nowhere = record { from = 0; to = 0 }

abbrev pub some_yes : List Bool → Bool
some_yes bs = list_any is_yes bs

abbrev pub maybe_yes : Option Bool → Bool
maybe_yes None = false
maybe_yes (Some b) = b

abbrev pub eform_part : E.EForm-F Bool Bool Bool → Bool
eform_part (E.Number n) = false
eform_part E.True = false
eform_part E.False = false
eform_part E.Null = false
eform_part (E.Word x) = false
eform_part (E.Hole n) = false
eform_part (E.Pattern pattern strings) = some_yes strings
eform_part (E.Paren e) = e
eform_part (E.Call x args) = some_yes args
eform_part (E.New x fields) = some_yes fields
eform_part (E.Braces es) = some_yes es
eform_part (E.Member e x) = e
eform_part (E.Index e i) = e || i
eform_part (E.Slice e i n) = e || (i || n)
eform_part (E.Unary m e) = e
eform_part (E.Binary m a b) = a || b
eform_part (E.Cond c a b) = c || (a || b)

module _ (s : Span) where
  -- whether the span is that of an expression, or of one inside it
  abbrev pub expr_has : Expr → Bool
  expr_has = fold-Expr Bool Bool Bool eform_part (λ x. same_span x.span s || x.form) (λ x. x.value)

  abbrev pub eform_has : EForm → Bool
  eform_has = fold-EForm Bool Bool Bool eform_part (λ x. same_span x.span s || x.form) (λ x. x.value)

  abbrev pub field_has : NewField → Bool
  field_has = fold-NewField Bool Bool Bool eform_part (λ x. same_span x.span s || x.form) (λ x. x.value)

  abbrev pub any_expr_has : Option Expr → Bool
  any_expr_has None = false
  any_expr_has (Some e) = expr_has e

  abbrev pub ty_has : TyTree → Bool
  ty_has ty = some_yes (map expr_has ty.lengths)

  abbrev pub declared_has : Declared → Bool
  declared_has d = any_expr_has d.value

  abbrev pub form_part : F.Form-F Bool Bool → Bool
  form_part (F.Block ss) = some_yes ss
  form_part F.Empty = false
  form_part (F.Declare ty names) = ty_has ty || list_any declared_has names
  form_part (F.Assign target value) = expr_has target || expr_has value
  form_part (F.Call e) = expr_has e
  form_part (F.Step kind target by) = expr_has target || any_expr_has by
  form_part (F.If c a b) = expr_has c || (a || maybe_yes b)
  form_part (F.While c a) = expr_has c || a
  form_part (F.For a c n body) = a || (expr_has c || (n || body))
  form_part (F.Return value) = any_expr_has value
  form_part (F.Assert e) = expr_has e
  form_part (F.Assume e) = expr_has e
  form_part (F.Minimize e) = expr_has e
  form_part (F.Repeat c a) = expr_has c || a
  form_part (F.MinRepeat a) = a
  form_part (F.Reorder ss) = some_yes ss

  -- whether the span is that of a statement, or of a statement or an expression inside it
  abbrev pub stmt_has : Stmt → Bool
  stmt_has = fold-Stmt Bool Bool form_part (λ x. same_span x.span s || x.form)

  abbrev pub form_has : Form → Bool
  form_has = fold-Form Bool Bool form_part (λ x. same_span x.span s || x.form)

  abbrev pub any_ty_has : Option TyTree → Bool
  any_ty_has None = false
  any_ty_has (Some ty) = ty_has ty

  abbrev pub param_has : Param → Bool
  param_has p = ty_has p.ty

  abbrev pub struct_field_has : Field → Bool
  struct_field_has d = ty_has d.ty

  abbrev pub fun_has : FunItem → Bool
  fun_has f = any_ty_has f.result || (list_any param_has f.params || some_yes (map stmt_has f.body))

  abbrev pub item_has : Item → Bool
  item_has (item.Pragma word text) = false
  item_has (item.Struct x fields) = list_any struct_field_has fields
  item_has (item.Const x value) = expr_has value
  item_has (item.Fun f) = fun_has f

  -- whether the span stands in a tree
  abbrev pub tree_has : Tree → Bool
  tree_has tree = list_any item_has tree.items

-- The place of a fault stands in the tree, or it is none.
abbrev pub IsPlaced : Tree → Typing → Type 0
IsPlaced tree Memory = Unit {0}
IsPlaced tree (Fault f) = IsTrue (tree_has f.span tree) ⊎ (f.span ≡ nowhere)
