use Rattle.std.proofs.Common.{◌≡◌, ap, sym}
use Rattle.sk_tree.specs.declared.stmt.Form.TheVariants as form
use Rattle.sk_tree.specs.Patterns.{stmt_patterns}
use Rattle.sk_parser_laws.specs.Faults.{all_seen}
use Rattle.sk_parser_laws.proofs.Walks.{join_map}
use Rattle.sk_parser.proofs.FormPatterns.{of_empty, of_if, of_while, of_for, of_repeat}
use Rattle.sk_parser.proofs.WalkLaws.{none_seen, two_seen, three_seen, four_seen, item_seen, list_seen}
use Rattle.sk_parser.proofs.walk.+stmt_faults.Goals as goal

pub see_stmt-returns-in-Empty : goal.see_stmt-returns-in-Empty
see_stmt-returns-in-Empty t c = none_seen _ _ (of_empty _ c.in-Empty.is)

pub see_stmt-returns-in_ok-faults-in-If-3 : goal.see_stmt-returns-in_ok-faults-in-If-3
see_stmt-returns-in_ok-faults-in-If-3 t c =
    let is : c.args.stmt.now.form ≡ form.If c.in-If.cond c.get.result.now c.in-If.other = cc (c.in-If.is, c.get.ensures) in
    three_seen _ _ _ _ _ _ _ _ (of_if c.args.stmt.now c.in-If.cond c.get.result.now c.in-If.other is) c.in_ok-faults-in-If.ensures c.in_ok-faults-in-If-2.ensures c.in_ok-faults-in-If-3.ensures

pub see_stmt-returns-in_ok-faults-in-For-4 : goal.see_stmt-returns-in_ok-faults-in-For-4
see_stmt-returns-in_ok-faults-in-For-4 t c =
    let is : c.args.stmt.now.form ≡ form.For c.get-in-For.result.now c.in-For.cond c.get-in-For-2.result.now c.get-in-For-3.result.now = cc (c.in-For.is, c.get-in-For.ensures, c.get-in-For-2.ensures, c.get-in-For-3.ensures) in
    four_seen _ _ _ _ _ _ _ _ _ _ (of_for c.args.stmt.now c.get-in-For.result.now c.in-For.cond c.get-in-For-2.result.now c.get-in-For-3.result.now is) c.in_ok-faults-in-For.ensures c.in_ok-faults-in-For-2.ensures c.in_ok-faults-in-For-3.ensures c.in_ok-faults-in-For-4.ensures

pub see_stmt-returns-in_ok-faults-in-While-2 : goal.see_stmt-returns-in_ok-faults-in-While-2
see_stmt-returns-in_ok-faults-in-While-2 t c =
    let is : c.args.stmt.now.form ≡ form.While c.in-While.cond c.get-in-While.result.now = cc (c.in-While.is, c.get-in-While.ensures) in
    two_seen _ _ _ _ _ _ (of_while c.args.stmt.now c.in-While.cond c.get-in-While.result.now is) c.in_ok-faults-in-While.ensures c.in_ok-faults-in-While-2.ensures

pub see_stmt-returns-in_ok-faults-in-Repeat-2 : goal.see_stmt-returns-in_ok-faults-in-Repeat-2
see_stmt-returns-in_ok-faults-in-Repeat-2 t c =
    let is : c.args.stmt.now.form ≡ form.Repeat c.in-Repeat.count c.get-in-Repeat.result.now = cc (c.in-Repeat.is, c.get-in-Repeat.ensures) in
    two_seen _ _ _ _ _ _ (of_repeat c.args.stmt.now c.in-Repeat.count c.get-in-Repeat.result.now is) c.in_ok-faults-in-Repeat.ensures c.in_ok-faults-in-Repeat-2.ensures

pub see_stmts-loop-stmt-init : goal.see_stmts-loop-stmt-init
see_stmts-loop-stmt-init t c = ap (all_seen _) (sym (join_map stmt_patterns c.args.stmts.now))

pub see_stmts-loop-stmt-preserved : goal.see_stmts-loop-stmt-preserved
see_stmts-loop-stmt-preserved t c = item_seen stmt_patterns _ _ _ _ _ c.stmt-item.result c.loop-stmt-test.true c.stmt-item.is c.in_ok-met.ensures c.loop-stmt.invariant

pub see_stmts-returns : goal.see_stmts-returns
see_stmts-returns t c = list_seen stmt_patterns _ _ _ _ c.loop-stmt-test.false c.loop-stmt.invariant
