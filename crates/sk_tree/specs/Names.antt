-- A test that every name of a tree passes. It is asked of all names that stand in the tree: those of
-- structs, fields, constants, functions and parameters, of variables where they are declared and where they
-- are used, and of types. The words of pragmas are no names, and the tokens of a pattern are asked in the
-- trees of its strings.
use Rattle.std.specs.Prelude.{ℕ, Bool, true, false, ◌&&◌, List, [], ◌∷◌, Option, Some, None}
use Rattle.std.specs.List.{list_all}
use Rattle.sk_tree.specs.declared.expr.Expr.{Expr}
use Rattle.sk_tree.specs.declared.expr.EForm.TheOpen as E
use Rattle.sk_tree.specs.declared.expr.EForm.TheFolds.{fold-Expr}
use Rattle.sk_tree.specs.declared.stmt.Stmt.{Stmt}
use Rattle.sk_tree.specs.declared.stmt.Form.TheOpen as F
use Rattle.sk_tree.specs.declared.stmt.Form.TheFolds.{fold-Stmt}
use Rattle.sk_tree.specs.declared.stmt.Declared.{Declared}
use Rattle.sk_tree.specs.declared.item.Base.{Base}
use Rattle.sk_tree.specs.declared.item.Base.TheVariants as base
use Rattle.sk_tree.specs.declared.item.TyTree.{TyTree}
use Rattle.sk_tree.specs.declared.item.Field.{Field}
use Rattle.sk_tree.specs.declared.item.Param.{Param}
use Rattle.sk_tree.specs.declared.item.FunItem.{FunItem}
use Rattle.sk_tree.specs.declared.item.Item.{Item}
use Rattle.sk_tree.specs.declared.item.Item.TheVariants as item
use Rattle.sk_tree.specs.declared.item.Tree.{Tree}

abbrev pub is_yes : Bool → Bool
is_yes b = b

abbrev pub any_yes : Option Bool → Bool
any_yes None = true
any_yes (Some b) = b

module _ (test : List ℕ → Bool) where
  abbrev pub eform_names : E.EForm-F Bool Bool Bool → Bool
  eform_names (E.Word x) = test x
  eform_names (E.Pattern pattern strings) = list_all is_yes strings
  eform_names (E.Paren e) = e
  eform_names (E.Call x args) = test x && list_all is_yes args
  eform_names (E.New x fields) = test x && list_all is_yes fields
  eform_names (E.Braces es) = list_all is_yes es
  eform_names (E.Member e x) = e && test x
  eform_names (E.Index e i) = e && i
  eform_names (E.Slice e i n) = e && (i && n)
  eform_names (E.Unary op e) = e
  eform_names (E.Binary op a b) = a && b
  eform_names (E.Cond c a b) = c && (a && b)
  eform_names (E.Number n) = true
  eform_names E.True = true
  eform_names E.False = true
  eform_names E.Null = true
  eform_names (E.Hole n) = true

  abbrev pub expr_names : Expr → Bool
  expr_names = fold-Expr Bool Bool Bool eform_names (λ x. x.form) (λ x. test x.name && x.value)

  abbrev pub any_names : Option Expr → Bool
  any_names None = true
  any_names (Some e) = expr_names e

  abbrev pub base_names : Base → Bool
  base_names base.Int = true
  base_names base.Bit = true
  base_names (base.Named x) = test x

  abbrev pub ty_names : TyTree → Bool
  ty_names t = base_names t.base && list_all expr_names t.lengths

  abbrev pub declared_names : Declared → Bool
  declared_names d = test d.name && any_names d.value

  abbrev pub form_names : F.Form-F Bool Bool → Bool
  form_names (F.Block ss) = list_all is_yes ss
  form_names F.Empty = true
  form_names (F.Declare t names) = ty_names t && list_all declared_names names
  form_names (F.Assign target value) = expr_names target && expr_names value
  form_names (F.Call e) = expr_names e
  form_names (F.Step kind target by) = expr_names target && any_names by
  form_names (F.If c a b) = expr_names c && (a && any_yes b)
  form_names (F.While c a) = expr_names c && a
  form_names (F.For a c n s) = a && (expr_names c && (n && s))
  form_names (F.Return value) = any_names value
  form_names (F.Assert e) = expr_names e
  form_names (F.Assume e) = expr_names e
  form_names (F.Minimize e) = expr_names e
  form_names (F.Repeat c s) = expr_names c && s
  form_names (F.MinRepeat s) = s
  form_names (F.Reorder ss) = list_all is_yes ss

  abbrev pub stmt_names : Stmt → Bool
  stmt_names = fold-Stmt Bool Bool form_names (λ s. s.form)

  abbrev pub param_names : Param → Bool
  param_names p = ty_names p.ty && test p.name

  abbrev pub field_names : Field → Bool
  field_names d = ty_names d.ty && test d.name

  abbrev pub any_name : Option (List ℕ) → Bool
  any_name None = true
  any_name (Some x) = test x

  abbrev pub any_ty_names : Option TyTree → Bool
  any_ty_names None = true
  any_ty_names (Some t) = ty_names t

  abbrev pub fun_names : FunItem → Bool
  fun_names f = any_ty_names f.result && (test f.name && (list_all param_names f.params && (any_name f.implements && list_all stmt_names f.body)))

  abbrev pub item_names : Item → Bool
  item_names (item.Pragma word text) = true
  item_names (item.Struct x fields) = test x && list_all field_names fields
  item_names (item.Const x value) = test x && expr_names value
  item_names (item.Fun f) = fun_names f

  -- whether every name of a tree passes the test
  abbrev pub all_names : Tree → Bool
  all_names tree = list_all item_names tree.items
