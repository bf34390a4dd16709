-- A test that every call of a program passes: it is asked of the number of each function that is called, also in
-- what need not stand.
use Rattle.std.specs.Prelude.{ℕ, Bool, true, ◌&&◌, ◌||◌, nat_lt, Option, Some, None}
use Rattle.std.specs.List.{list_all}
use Rattle.sk_prog.specs.declared.expr.PExpr.{PExpr}
use Rattle.sk_prog.specs.declared.expr.PEForm.TheOpen as P
use Rattle.sk_prog.specs.declared.expr.PEForm.TheFolds.{fold-PExpr}
use Rattle.sk_prog.specs.declared.stmt.PStmt.{PStmt}
use Rattle.sk_prog.specs.declared.stmt.PForm.TheOpen as S
use Rattle.sk_prog.specs.declared.stmt.PForm.TheFolds.{fold-PStmt}
use Rattle.sk_prog.specs.Names.{is_yes, any_yes}

module _ (test : ℕ → Bool) where
  abbrev pub eform_callees : P.PEForm-F Bool Bool Bool → Bool
  eform_callees (P.Call f args) = test f.index && list_all is_yes args
  eform_callees (P.Pattern es) = list_all is_yes es
  eform_callees (P.Paren e) = e
  eform_callees (P.New s fields) = list_all is_yes fields
  eform_callees (P.Braces es) = list_all is_yes es
  eform_callees (P.Member e s field) = e
  eform_callees (P.Index e i) = e && i
  eform_callees (P.Slice e i n) = e && i
  eform_callees (P.Unary op e) = e
  eform_callees (P.Binary op a b) = a && b
  eform_callees (P.Cond c a b) = c && (a && b)
  eform_callees (P.ToInt e) = e
  eform_callees (P.Pad e) = e
  eform_callees (P.Number n) = true
  eform_callees P.True = true
  eform_callees P.False = true
  eform_callees P.Null = true
  eform_callees (P.Var slot x) = true
  eform_callees (P.Const c) = true
  eform_callees (P.Hole n) = true

  abbrev pub expr_callees : PExpr → Bool
  expr_callees = fold-PExpr Bool Bool Bool eform_callees (λ x. x.form) (λ x. x.value)

  abbrev pub any_callees : Option PExpr → Bool
  any_callees None = true
  any_callees (Some e) = expr_callees e

  abbrev pub form_callees : S.PForm-F Bool Bool → Bool
  form_callees (S.Block ss) = list_all is_yes ss
  form_callees (S.Declare slot x t value) = any_callees value
  form_callees (S.Assign target value) = expr_callees target && expr_callees value
  form_callees (S.Call e) = expr_callees e
  form_callees (S.If c a b) = expr_callees c && (a && any_yes b)
  form_callees (S.While c a) = expr_callees c && a
  form_callees (S.Return value) = any_callees value
  form_callees (S.Assert e) = expr_callees e
  form_callees (S.Assume e) = expr_callees e
  form_callees (S.Minimize e) = expr_callees e
  form_callees (S.Repeat c copies) = expr_callees c && list_all is_yes copies
  form_callees (S.MinRepeat copies) = list_all is_yes copies
  form_callees (S.Reorder ss) = list_all is_yes ss

  abbrev pub stmt_callees : PStmt → Bool
  stmt_callees = fold-PStmt Bool Bool form_callees (λ s. s.form)

-- The function with number n calls ordinary functions and copies that stand behind it.
abbrev pub is_ahead : ℕ → ℕ → ℕ → Bool
is_ahead ordinary n m = nat_lt m ordinary || nat_lt n m
