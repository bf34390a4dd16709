-- Statements in which each call has the new number of its function. A hole of no bits, which no typed program has, is braces of
-- none, as in a filling.
use Rattle.std.specs.Prelude.{ℕ, zero, List, [], map, Option, Some, None}
use Rattle.sk_prog.specs.declared.ids.FunId.{FunId}
use Rattle.sk_prog.specs.declared.ty.Elem.TheVariants as elem
use Rattle.sk_prog.specs.declared.ty.Ty.{Ty}
use Rattle.sk_prog.specs.declared.ty.Ty.TheVariants as ty
use Rattle.sk_prog.specs.declared.expr.PExpr.{PExpr}
use Rattle.sk_prog.specs.declared.expr.PField.{PField}
use Rattle.sk_prog.specs.declared.expr.PEForm.{PEForm}
use Rattle.sk_prog.specs.declared.expr.PEForm.TheOpen as P
use Rattle.sk_prog.specs.declared.expr.PEForm.TheVariants as eform
use Rattle.sk_prog.specs.declared.expr.PEForm.TheFolds.{fold-PExpr}
use Rattle.sk_prog.specs.declared.stmt.PStmt.{PStmt}
use Rattle.sk_prog.specs.declared.stmt.PForm.{PForm}
use Rattle.sk_prog.specs.declared.stmt.PForm.TheOpen as S
use Rattle.sk_prog.specs.declared.stmt.PForm.TheVariants as form
use Rattle.sk_prog.specs.declared.stmt.PForm.TheFolds.{fold-PStmt}

abbrev pub hole_renamed : Option ℕ → Option Ty → PEForm
hole_renamed bits (Some (ty.Array elem.Bit zero)) = eform.Braces []
hole_renamed bits _ = eform.Hole bits

-- The form of an expression has a type round it.
abbrev pub Typed : Type 0
Typed = Option Ty → PEForm

module _ (number : ℕ → ℕ) where
  abbrev pub new_id : FunId → FunId
  new_id f = record { index = number f.index }

  abbrev pub any_id : Option FunId → Option FunId
  any_id None = None
  any_id (Some f) = Some (new_id f)

  abbrev pub eform_renamed : P.PEForm-F Typed PExpr PField → Typed
  eform_renamed (P.Call f args) t = eform.Call (new_id f) args
  eform_renamed (P.Number n) t = eform.Number n
  eform_renamed P.True t = eform.True
  eform_renamed P.False t = eform.False
  eform_renamed P.Null t = eform.Null
  eform_renamed (P.Var slot x) t = eform.Var slot x
  eform_renamed (P.Const c) t = eform.Const c
  eform_renamed (P.Hole bits) t = hole_renamed bits t
  eform_renamed (P.Pattern strings) t = eform.Pattern strings
  eform_renamed (P.Paren a) t = eform.Paren a
  eform_renamed (P.New d fields) t = eform.New d fields
  eform_renamed (P.Braces parts) t = eform.Braces parts
  eform_renamed (P.Member a d field) t = eform.Member a d field
  eform_renamed (P.Index a i) t = eform.Index a i
  eform_renamed (P.Slice a i n) t = eform.Slice a i n
  eform_renamed (P.Unary o a) t = eform.Unary o a
  eform_renamed (P.Binary o a b) t = eform.Binary o a b
  eform_renamed (P.Cond c a b) t = eform.Cond c a b
  eform_renamed (P.ToInt a) t = eform.ToInt a
  eform_renamed (P.Pad a) t = eform.Pad a

  abbrev pub expr_again : P.PExpr-F Typed PExpr PField → PExpr
  expr_again e = record { span = e.span; ty = e.ty; form = e.form e.ty }

  abbrev pub field_again : P.PField-F Typed PExpr PField → PField
  field_again x = record { field = x.field; value = x.value }

  abbrev pub expr_renamed : PExpr → PExpr
  expr_renamed = fold-PExpr Typed PExpr PField eform_renamed expr_again field_again

  abbrev pub value_renamed : Option PExpr → Option PExpr
  value_renamed None = None
  value_renamed (Some e) = Some (expr_renamed e)

  abbrev pub form_renamed : S.PForm-F PForm PStmt → PForm
  form_renamed (S.Block ss) = form.Block ss
  form_renamed (S.Declare slot x t e) = form.Declare slot x t (value_renamed e)
  form_renamed (S.Assign target e) = form.Assign (expr_renamed target) (expr_renamed e)
  form_renamed (S.Call e) = form.Call (expr_renamed e)
  form_renamed (S.If c a b) = form.If (expr_renamed c) a b
  form_renamed (S.While c a) = form.While (expr_renamed c) a
  form_renamed (S.Return e) = form.Return (value_renamed e)
  form_renamed (S.Assert e) = form.Assert (expr_renamed e)
  form_renamed (S.Assume e) = form.Assume (expr_renamed e)
  form_renamed (S.Minimize e) = form.Minimize (expr_renamed e)
  form_renamed (S.Repeat count copies) = form.Repeat count copies
  form_renamed (S.MinRepeat copies) = form.MinRepeat copies
  form_renamed (S.Reorder ss) = form.Reorder ss

  abbrev pub stmt_again : S.PStmt-F PForm PStmt → PStmt
  stmt_again s = record { span = s.span; form = s.form }

  abbrev pub stmt_renamed : PStmt → PStmt
  stmt_renamed = fold-PStmt PForm PStmt form_renamed stmt_again

  abbrev pub renamed : List PStmt → List PStmt
  renamed ss = map stmt_renamed ss
