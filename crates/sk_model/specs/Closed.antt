-- Whether a program leaves nothing open, so that it has no sites. No hole of a bit or more, no pattern and no `minrepeat`
-- stands in a function of it, each repeat is by a constant, and a `reorder` has one statement at most.
use Rattle.std.specs.Prelude.{nat_le, length, Bool, false, not, ◌&&◌}
use Rattle.std.specs.List.{list_all}
use Rattle.sk_prog.specs.declared.stmt.PStmt.{PStmt}
use Rattle.sk_prog.specs.declared.stmt.PForm.TheOpen as S
use Rattle.sk_prog.specs.declared.stmt.PForm.TheFolds.{fold-PStmt}
use Rattle.sk_prog.specs.declared.prog.Fun.{Fun}
use Rattle.sk_prog.specs.declared.prog.Prog.{Prog}
use Rattle.sk_model.specs.Sites.{is_hole}
use Rattle.sk_model.specs.Filled.{is_yes, other_filled}
use Rattle.sk_model.specs.ClosedExprs.{expr_closed, any_closed}

abbrev pub form_closed : {X : Type 0} → S.PForm-F X Bool → Bool
form_closed (S.Repeat count copies) = not (is_hole count.form) && list_all is_yes copies
form_closed (S.MinRepeat copies) = false
form_closed (S.Reorder ss) = nat_le (length ss) 1 && list_all is_yes ss
form_closed (S.Block ss) = list_all is_yes ss
form_closed (S.Declare slot x t e) = any_closed e
form_closed (S.Assign target e) = expr_closed target && expr_closed e
form_closed (S.Call e) = expr_closed e
form_closed (S.If cond a b) = expr_closed cond && (a && other_filled b)
form_closed (S.While cond body) = expr_closed cond && body
form_closed (S.Return e) = any_closed e
form_closed (S.Assert e) = expr_closed e
form_closed (S.Assume e) = expr_closed e
form_closed (S.Minimize e) = expr_closed e

abbrev pub stmt_closed : PStmt → Bool
stmt_closed = fold-PStmt Bool Bool form_closed (λ s. s.form)

abbrev pub fun_closed : Fun → Bool
fun_closed fun = list_all stmt_closed fun.body

abbrev pub is_closed : Prog → Bool
is_closed prog = list_all fun_closed prog.funs
