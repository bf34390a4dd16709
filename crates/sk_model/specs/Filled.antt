-- Whether a program is filled: it leaves nothing open. No hole and no pattern, no repeat, `minrepeat` or
-- `reorder` stands in a function of it.
use Rattle.std.specs.Prelude.{Bool, true, false, ◌&&◌, Option, Some, None}
use Rattle.std.specs.List.{list_all}
use Rattle.sk_prog.specs.declared.expr.PExpr.{PExpr}
use Rattle.sk_prog.specs.declared.expr.PEForm.TheOpen as P
use Rattle.sk_prog.specs.declared.expr.PEForm.TheFolds.{fold-PExpr}
use Rattle.sk_prog.specs.declared.stmt.PStmt.{PStmt}
use Rattle.sk_prog.specs.declared.stmt.PForm.TheOpen as S
use Rattle.sk_prog.specs.declared.stmt.PForm.TheFolds.{fold-PStmt}
use Rattle.sk_prog.specs.declared.prog.Fun.{Fun}
use Rattle.sk_prog.specs.declared.prog.Prog.{Prog}

abbrev pub is_yes : Bool → Bool
is_yes b = b

abbrev pub eform_filled : {X : Type 0} → P.PEForm-F X Bool Bool → Bool
eform_filled (P.Hole bits) = false
eform_filled (P.Pattern strings) = false
eform_filled (P.Number n) = true
eform_filled P.True = true
eform_filled P.False = true
eform_filled P.Null = true
eform_filled (P.Var slot x) = true
eform_filled (P.Const c) = true
eform_filled (P.Paren a) = a
eform_filled (P.Call f args) = list_all is_yes args
eform_filled (P.New d fields) = list_all is_yes fields
eform_filled (P.Braces parts) = list_all is_yes parts
eform_filled (P.Member a d field) = a
eform_filled (P.Index a i) = a && i
eform_filled (P.Slice a i n) = a && i
eform_filled (P.Unary op a) = a
eform_filled (P.Binary op a b) = a && b
eform_filled (P.Cond c a b) = c && (a && b)
eform_filled (P.ToInt a) = a
eform_filled (P.Pad a) = a

abbrev pub expr_filled : PExpr → Bool
expr_filled = fold-PExpr Bool Bool Bool eform_filled (λ x. x.form) (λ x. x.value)

abbrev pub any_filled : Option PExpr → Bool
any_filled None = true
any_filled (Some e) = expr_filled e

abbrev pub other_filled : Option Bool → Bool
other_filled None = true
other_filled (Some b) = b

abbrev pub form_filled : {X : Type 0} → S.PForm-F X Bool → Bool
form_filled (S.Repeat count copies) = false
form_filled (S.MinRepeat copies) = false
form_filled (S.Reorder ss) = false
form_filled (S.Block ss) = list_all is_yes ss
form_filled (S.Declare slot x t e) = any_filled e
form_filled (S.Assign target e) = expr_filled target && expr_filled e
form_filled (S.Call e) = expr_filled e
form_filled (S.If cond a b) = expr_filled cond && (a && other_filled b)
form_filled (S.While cond body) = expr_filled cond && body
form_filled (S.Return e) = any_filled e
form_filled (S.Assert e) = expr_filled e
form_filled (S.Assume e) = expr_filled e
form_filled (S.Minimize e) = expr_filled e

abbrev pub stmt_filled : PStmt → Bool
stmt_filled = fold-PStmt Bool Bool form_filled (λ s. s.form)

abbrev pub fun_filled : Fun → Bool
fun_filled fun = list_all stmt_filled fun.body

abbrev pub is_filled : Prog → Bool
is_filled prog = list_all fun_filled prog.funs
