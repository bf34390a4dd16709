-- Whether an expression leaves nothing open: no pattern stands in it, and no hole but one of the type `bit[0]`. Such a hole
-- has no site, and no bits are its one value; no typed program has it, since a length is at least 1.
use Rattle.std.specs.Prelude.{zero, Bool, true, false, ◌&&◌, Option, Some, None}
use Rattle.std.specs.List.{list_all}
use Rattle.sk_prog.specs.declared.ty.Elem.TheVariants as elem
use Rattle.sk_prog.specs.declared.ty.Ty.{Ty}
use Rattle.sk_prog.specs.declared.ty.Ty.TheVariants as ty
use Rattle.sk_prog.specs.declared.expr.PExpr.{PExpr}
use Rattle.sk_prog.specs.declared.expr.PEForm.TheOpen as P
use Rattle.sk_prog.specs.declared.expr.PEForm.TheFolds.{fold-PExpr}
use Rattle.sk_model.specs.Filled.{is_yes}

abbrev pub is_no_bits : Option Ty → Bool
is_no_bits (Some (ty.Array elem.Bit zero)) = true
is_no_bits _ = false

abbrev pub eform_closed : P.PEForm-F (Option Ty → Bool) Bool Bool → Option Ty → Bool
eform_closed (P.Hole bits) t = is_no_bits t
eform_closed (P.Pattern strings) t = false
eform_closed (P.Number n) t = true
eform_closed P.True t = true
eform_closed P.False t = true
eform_closed P.Null t = true
eform_closed (P.Var slot x) t = true
eform_closed (P.Const c) t = true
eform_closed (P.Paren a) t = a
eform_closed (P.Call f args) t = list_all is_yes args
eform_closed (P.New d fields) t = list_all is_yes fields
eform_closed (P.Braces parts) t = list_all is_yes parts
eform_closed (P.Member a d field) t = a
eform_closed (P.Index a i) t = a && i
eform_closed (P.Slice a i n) t = a && i
eform_closed (P.Unary op a) t = a
eform_closed (P.Binary op a b) t = a && b
eform_closed (P.Cond c a b) t = c && (a && b)
eform_closed (P.ToInt a) t = a
eform_closed (P.Pad a) t = a

abbrev pub expr_closed : PExpr → Bool
expr_closed = fold-PExpr (Option Ty → Bool) Bool Bool eform_closed (λ x. x.form x.ty) (λ x. x.value)

abbrev pub any_closed : Option PExpr → Bool
any_closed None = true
any_closed (Some e) = expr_closed e
