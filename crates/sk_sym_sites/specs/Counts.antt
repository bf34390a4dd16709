-- How many sites the parts of a program have. The sites of a construct stand before those inside it.
use Rattle.std.specs.Prelude.{ℕ, suc, ◌+◌, ◌-◌, List, map, length, Option, Some, None, if◌then◌else◌}
use Rattle.sk_prog.specs.declared.ty.Ty.{Ty}
use Rattle.sk_prog.specs.declared.expr.PExpr.{PExpr}
use Rattle.sk_prog.specs.declared.expr.PField.{PField}
use Rattle.sk_prog.specs.declared.expr.PEForm.TheOpen as P
use Rattle.sk_prog.specs.declared.expr.PEForm.TheFolds.{fold-PExpr, fold-PField}
use Rattle.sk_prog.specs.declared.stmt.PStmt.{PStmt}
use Rattle.sk_prog.specs.declared.stmt.PForm.TheOpen as S
use Rattle.sk_prog.specs.declared.stmt.PForm.TheFolds.{fold-PStmt}
use Rattle.sk_model.specs.Parts.{total}
use Rattle.sk_model.specs.Sites.{is_hole}
use Rattle.sk_model.specs.Stands.{hole_count}

abbrev pub eform_count : P.PEForm-F (Option Ty → ℕ) ℕ ℕ → Option Ty → ℕ
eform_count (P.Number n) t = 0
eform_count P.True t = 0
eform_count P.False t = 0
eform_count P.Null t = 0
eform_count (P.Var slot x) t = 0
eform_count (P.Const c) t = 0
eform_count (P.Hole bits) t = hole_count t
eform_count (P.Pattern strings) t = suc (total strings)
eform_count (P.Paren a) t = a
eform_count (P.Call f args) t = total args
eform_count (P.New d fields) t = total fields
eform_count (P.Braces parts) t = total parts
eform_count (P.Member a d field) t = a
eform_count (P.Index a i) t = a + i
eform_count (P.Slice a i n) t = a + i
eform_count (P.Unary op a) t = a
eform_count (P.Binary op a b) t = a + b
eform_count (P.Cond c a b) t = c + (a + b)
eform_count (P.ToInt a) t = a
eform_count (P.Pad a) t = a

abbrev pub expr_count : PExpr → ℕ
expr_count = fold-PExpr (Option Ty → ℕ) ℕ ℕ eform_count (λ e. e.form e.ty) (λ x. x.value)

abbrev pub field_count : PField → ℕ
field_count = fold-PField (Option Ty → ℕ) ℕ ℕ eform_count (λ e. e.form e.ty) (λ x. x.value)

abbrev pub exprs_count : List PExpr → ℕ
exprs_count es = total (map expr_count es)

abbrev pub fields_count : List PField → ℕ
fields_count fields = total (map field_count fields)

abbrev pub value_count : Option PExpr → ℕ
value_count None = 0
value_count (Some e) = expr_count e

abbrev pub any_count : Option ℕ → ℕ
any_count None = 0
any_count (Some n) = n

-- of the copies of a repeat
abbrev pub copies_count : PExpr → List ℕ → ℕ
copies_count count copies = if is_hole count.form then suc (total copies) else total copies

abbrev pub form_count : S.PForm-F ℕ ℕ → ℕ
form_count (S.Block ss) = total ss
form_count (S.Declare slot x t e) = value_count e
form_count (S.Assign target e) = expr_count target + expr_count e
form_count (S.Call e) = expr_count e
form_count (S.If c a b) = expr_count c + (a + any_count b)
form_count (S.While c a) = expr_count c + a
form_count (S.Return e) = value_count e
form_count (S.Assert e) = expr_count e
form_count (S.Assume e) = expr_count e
form_count (S.Minimize e) = expr_count e
form_count (S.Repeat count copies) = copies_count count copies
form_count (S.MinRepeat copies) = suc (total copies)
form_count (S.Reorder ss) = (length ss - 1) + total ss

abbrev pub stmt_count : PStmt → ℕ
stmt_count = fold-PStmt ℕ ℕ form_count (λ s. s.form)

abbrev pub stmts_count : List PStmt → ℕ
stmts_count ss = total (map stmt_count ss)
