-- Numbers that a text can spell. A program that keeps the rules has no others, but well-formedness does not say so.
use Rattle.std.specs.Prelude.{ℕ, nat_le, Bool, true, ◌&&◌, Option, Some, None}
use Rattle.std.specs.List.{list_all}
use Rattle.sk_tree.specs.Tokens.{greatest_number}
use Rattle.sk_prog.specs.declared.ty.Ty.{Ty}
use Rattle.sk_prog.specs.declared.ty.Ty.TheVariants as ty
use Rattle.sk_prog.specs.declared.expr.PExpr.{PExpr}
use Rattle.sk_prog.specs.declared.expr.PEForm.TheOpen as P
use Rattle.sk_prog.specs.declared.expr.PEForm.TheFolds.{fold-PExpr}
use Rattle.sk_prog.specs.declared.stmt.PStmt.{PStmt}
use Rattle.sk_prog.specs.declared.stmt.PForm.TheOpen as S
use Rattle.sk_prog.specs.declared.stmt.PForm.TheFolds.{fold-PStmt}
use Rattle.sk_prog.specs.declared.prog.FieldDef.{FieldDef}
use Rattle.sk_prog.specs.declared.prog.StructDef.{StructDef}
use Rattle.sk_prog.specs.declared.prog.ConstDef.{ConstDef}
use Rattle.sk_prog.specs.declared.prog.ParamDef.{ParamDef}
use Rattle.sk_prog.specs.declared.prog.Fun.{Fun}
use Rattle.sk_prog.specs.declared.prog.Prog.{Prog}
use Rattle.sk_prog.specs.Names.{is_yes, any_yes}

abbrev pub is_small : ℕ → Bool
is_small n = nat_le n greatest_number

abbrev pub any_small : Option ℕ → Bool
any_small None = true
any_small (Some n) = is_small n

abbrev pub ty_small : Ty → Bool
ty_small (ty.One t) = true
ty_small (ty.Array t n) = is_small n
ty_small (ty.Grid t n m) = is_small n && is_small m

abbrev pub any_ty_small : Option Ty → Bool
any_ty_small None = true
any_ty_small (Some t) = ty_small t

abbrev pub eform_small : P.PEForm-F Bool Bool Bool → Bool
eform_small (P.Number n) = is_small n
eform_small P.True = true
eform_small P.False = true
eform_small P.Null = true
eform_small (P.Var slot x) = true
eform_small (P.Const c) = true
eform_small (P.Hole n) = any_small n
eform_small (P.Pattern es) = list_all is_yes es
eform_small (P.Paren e) = e
eform_small (P.Call f args) = list_all is_yes args
eform_small (P.New s fields) = list_all is_yes fields
eform_small (P.Braces es) = list_all is_yes es
eform_small (P.Member e s field) = e
eform_small (P.Index e i) = e && i
eform_small (P.Slice e i n) = e && (i && is_small n)
eform_small (P.Unary op e) = e
eform_small (P.Binary op a b) = a && b
eform_small (P.Cond c a b) = c && (a && b)
eform_small (P.ToInt e) = e
eform_small (P.Pad e) = e

abbrev pub expr_small : PExpr → Bool
expr_small = fold-PExpr Bool Bool Bool eform_small (λ x. x.form) (λ f. f.value)

abbrev pub any_expr_small : Option PExpr → Bool
any_expr_small None = true
any_expr_small (Some e) = expr_small e

abbrev pub form_small : S.PForm-F Bool Bool → Bool
form_small (S.Block ss) = list_all is_yes ss
form_small (S.Declare slot x t value) = ty_small t && any_expr_small value
form_small (S.Assign target value) = expr_small target && expr_small value
form_small (S.Call e) = expr_small e
form_small (S.If c a b) = expr_small c && (a && any_yes b)
form_small (S.While c a) = expr_small c && a
form_small (S.Return value) = any_expr_small value
form_small (S.Assert e) = expr_small e
form_small (S.Assume e) = expr_small e
form_small (S.Minimize e) = expr_small e
form_small (S.Repeat c copies) = expr_small c && list_all is_yes copies
form_small (S.MinRepeat copies) = list_all is_yes copies
form_small (S.Reorder ss) = list_all is_yes ss

abbrev pub stmt_small : PStmt → Bool
stmt_small = fold-PStmt Bool Bool form_small (λ s. s.form)

abbrev pub struct_small : StructDef → Bool
struct_small d = list_all (λ (f : FieldDef). ty_small f.ty) d.fields

abbrev pub const_small : ConstDef → Bool
const_small c = expr_small c.value

abbrev pub fun_small : Fun → Bool
fun_small f = any_ty_small f.result && (list_all (λ (d : ParamDef). ty_small d.ty) f.params && list_all stmt_small f.body)

-- whether a text can spell each number of the program
unfoldable pub numbers_small : Prog → Bool
numbers_small prog = list_all struct_small prog.structs && (list_all const_small prog.consts && list_all fun_small prog.funs)
