-- A test that every name of a program passes. It is asked of all names that stand in the program: those of
-- structs, fields, constants, functions and parameters, and of variables where they are declared and where
-- they are used.
use Rattle.std.specs.Prelude.{ℕ, Bool, true, false, ◌&&◌, List, [], ◌∷◌, Option, Some, None}
use Rattle.std.specs.List.{list_all}
use Rattle.sk_prog.specs.declared.expr.PExpr.{PExpr}
use Rattle.sk_prog.specs.declared.expr.PEForm.TheOpen as P
use Rattle.sk_prog.specs.declared.expr.PEForm.TheFolds.{fold-PExpr}
use Rattle.sk_prog.specs.declared.stmt.PStmt.{PStmt}
use Rattle.sk_prog.specs.declared.stmt.PForm.TheOpen as S
use Rattle.sk_prog.specs.declared.stmt.PForm.TheFolds.{fold-PStmt}
use Rattle.sk_prog.specs.declared.prog.FieldDef.{FieldDef}
use Rattle.sk_prog.specs.declared.prog.StructDef.{StructDef}
use Rattle.sk_prog.specs.declared.prog.ConstDef.{ConstDef}
use Rattle.sk_prog.specs.declared.prog.ParamDef.{ParamDef}
use Rattle.sk_prog.specs.declared.prog.Fun.{Fun}
use Rattle.sk_prog.specs.declared.prog.Prog.{Prog}

abbrev pub is_yes : Bool → Bool
is_yes b = b

abbrev pub any_yes : Option Bool → Bool
any_yes None = true
any_yes (Some b) = b

module _ (test : List ℕ → Bool) where
  abbrev pub eform_names : P.PEForm-F Bool Bool Bool → Bool
  eform_names (P.Var slot x) = test x
  eform_names (P.Pattern es) = list_all is_yes es
  eform_names (P.Paren e) = e
  eform_names (P.Call f args) = list_all is_yes args
  eform_names (P.New s fields) = list_all is_yes fields
  eform_names (P.Braces es) = list_all is_yes es
  eform_names (P.Member e s field) = e
  eform_names (P.Index e i) = e && i
  eform_names (P.Slice e i n) = e && i
  eform_names (P.Unary op e) = e
  eform_names (P.Binary op a b) = a && b
  eform_names (P.Cond c a b) = c && (a && b)
  eform_names (P.ToInt e) = e
  eform_names (P.Pad e) = e
  eform_names (P.Number n) = true
  eform_names P.True = true
  eform_names P.False = true
  eform_names P.Null = true
  eform_names (P.Const c) = true
  eform_names (P.Hole n) = true

  abbrev pub expr_names : PExpr → Bool
  expr_names = fold-PExpr Bool Bool Bool eform_names (λ x. x.form) (λ x. x.value)

  abbrev pub any_names : Option PExpr → Bool
  any_names None = true
  any_names (Some e) = expr_names e

  abbrev pub form_names : S.PForm-F Bool Bool → Bool
  form_names (S.Block ss) = list_all is_yes ss
  form_names (S.Declare slot x t value) = test x && any_names value
  form_names (S.Assign target value) = expr_names target && expr_names value
  form_names (S.Call e) = expr_names e
  form_names (S.If c a b) = expr_names c && (a && any_yes b)
  form_names (S.While c a) = expr_names c && a
  form_names (S.Return value) = any_names value
  form_names (S.Assert e) = expr_names e
  form_names (S.Assume e) = expr_names e
  form_names (S.Minimize e) = expr_names e
  form_names (S.Repeat c copies) = expr_names c && list_all is_yes copies
  form_names (S.MinRepeat ss) = list_all is_yes ss
  form_names (S.Reorder ss) = list_all is_yes ss

  abbrev pub stmt_names : PStmt → Bool
  stmt_names = fold-PStmt Bool Bool form_names (λ s. s.form)

  abbrev pub struct_names : StructDef → Bool
  struct_names s = test s.name && list_all (λ (d : FieldDef). test d.name) s.fields

  abbrev pub const_names : ConstDef → Bool
  const_names c = test c.name && expr_names c.value

  abbrev pub fun_names : Fun → Bool
  fun_names f = test f.name && (list_all (λ (d : ParamDef). test d.name) f.params && list_all stmt_names f.body)

  -- whether every name of a program passes the test
  abbrev pub all_names : Prog → Bool
  all_names prog = list_all struct_names prog.structs && (list_all const_names prog.consts && list_all fun_names prog.funs)
