use Rattle.std.proofs.Common.{◌≡◌, ap, sym}
use Rattle.sk_tree.specs.declared.expr.EForm.TheVariants as eform
use Rattle.sk_tree.specs.Patterns.{expr_patterns}
use Rattle.sk_parser_laws.specs.Faults.{all_seen, set_patterns}
use Rattle.sk_parser_laws.proofs.Walks.{join_map}
use Rattle.sk_parser.proofs.FormPatterns.{of_true, of_false, of_null, of_number, of_word, of_hole, of_pattern, of_index, of_slice, of_binary, of_cond}
use Rattle.sk_parser.proofs.WalkLaws.{none_seen, one_seen, two_seen, three_seen, item_seen, list_seen}
use Rattle.sk_parser.proofs.walk.+expr_faults.Goals as goal

pub see_expr-returns-in-Number : goal.see_expr-returns-in-Number
see_expr-returns-in-Number t c = none_seen _ _ (of_number _ _ c.in-Number.is)

pub see_expr-returns-in-True : goal.see_expr-returns-in-True
see_expr-returns-in-True t c = none_seen _ _ (of_true _ c.in-True.is)

pub see_expr-returns-in-False : goal.see_expr-returns-in-False
see_expr-returns-in-False t c = none_seen _ _ (of_false _ c.in-False.is)

pub see_expr-returns-in-Null : goal.see_expr-returns-in-Null
see_expr-returns-in-Null t c = none_seen _ _ (of_null _ c.in-Null.is)

pub see_expr-returns-in-Word : goal.see_expr-returns-in-Word
see_expr-returns-in-Word t c = none_seen _ _ (of_word _ _ c.in-Word.is)

pub see_expr-returns-in-Hole : goal.see_expr-returns-in-Hole
see_expr-returns-in-Hole t c = none_seen _ _ (of_hole _ _ c.in-Hole.is)

pub see_expr-returns-in_ok-faults-in-Pattern : goal.see_expr-returns-in_ok-faults-in-Pattern
see_expr-returns-in_ok-faults-in-Pattern t c = one_seen _ _ _ _ (of_pattern _ _ _ c.in-Pattern.is) c.in_ok-faults-in-Pattern.ensures

pub see_expr-returns-in_ok-faults-in-Index-2 : goal.see_expr-returns-in_ok-faults-in-Index-2
see_expr-returns-in_ok-faults-in-Index-2 t c =
    let is : c.args.expr.now.form ≡ eform.Index c.get-in-Index.result.now c.get-in-Index-2.result.now = cc (c.in-Index.is, c.get-in-Index.ensures, c.get-in-Index-2.ensures) in
    two_seen _ _ _ _ _ _ (of_index c.args.expr.now c.get-in-Index.result.now c.get-in-Index-2.result.now is) c.in_ok-faults-in-Index.ensures c.in_ok-faults-in-Index-2.ensures

pub see_expr-returns-in_ok-faults-in-Slice-3 : goal.see_expr-returns-in_ok-faults-in-Slice-3
see_expr-returns-in_ok-faults-in-Slice-3 t c =
    let is : c.args.expr.now.form ≡ eform.Slice c.get-in-Slice.result.now c.get-in-Slice-2.result.now c.get-in-Slice-3.result.now = cc (c.in-Slice.is, c.get-in-Slice.ensures, c.get-in-Slice-2.ensures, c.get-in-Slice-3.ensures) in
    three_seen _ _ _ _ _ _ _ _ (of_slice c.args.expr.now c.get-in-Slice.result.now c.get-in-Slice-2.result.now c.get-in-Slice-3.result.now is) c.in_ok-faults-in-Slice.ensures c.in_ok-faults-in-Slice-2.ensures c.in_ok-faults-in-Slice-3.ensures

pub see_expr-returns-in_ok-faults-in-Binary-2 : goal.see_expr-returns-in_ok-faults-in-Binary-2
see_expr-returns-in_ok-faults-in-Binary-2 t c =
    let is : c.args.expr.now.form ≡ eform.Binary c.in-Binary.op c.get-in-Binary.result.now c.get-in-Binary-2.result.now = cc (c.in-Binary.is, c.get-in-Binary.ensures, c.get-in-Binary-2.ensures) in
    two_seen _ _ _ _ _ _ (of_binary c.args.expr.now c.in-Binary.op c.get-in-Binary.result.now c.get-in-Binary-2.result.now is) c.in_ok-faults-in-Binary.ensures c.in_ok-faults-in-Binary-2.ensures

pub see_expr-returns-in_ok-faults-in-Cond-3 : goal.see_expr-returns-in_ok-faults-in-Cond-3
see_expr-returns-in_ok-faults-in-Cond-3 t c =
    let is : c.args.expr.now.form ≡ eform.Cond c.get-in-Cond.result.now c.get-in-Cond-2.result.now c.get-in-Cond-3.result.now = cc (c.in-Cond.is, c.get-in-Cond.ensures, c.get-in-Cond-2.ensures, c.get-in-Cond-3.ensures) in
    three_seen _ _ _ _ _ _ _ _ (of_cond c.args.expr.now c.get-in-Cond.result.now c.get-in-Cond-2.result.now c.get-in-Cond-3.result.now is) c.in_ok-faults-in-Cond.ensures c.in_ok-faults-in-Cond-2.ensures c.in_ok-faults-in-Cond-3.ensures

pub see_exprs-loop-expr-init : goal.see_exprs-loop-expr-init
see_exprs-loop-expr-init t c = ap (all_seen _) (sym (join_map expr_patterns c.args.exprs.now))

pub see_exprs-loop-expr-preserved : goal.see_exprs-loop-expr-preserved
see_exprs-loop-expr-preserved t c = item_seen expr_patterns _ _ _ _ _ c.expr-item.result c.loop-expr-test.true c.expr-item.is c.in_ok-met.ensures c.loop-expr.invariant

pub see_exprs-returns : goal.see_exprs-returns
see_exprs-returns t c = list_seen expr_patterns _ _ _ _ c.loop-expr-test.false c.loop-expr.invariant

pub see_sets-loop-field-init : goal.see_sets-loop-field-init
see_sets-loop-field-init t c = ap (all_seen _) (sym (join_map set_patterns c.args.fields.now))

pub see_sets-loop-field-preserved : goal.see_sets-loop-field-preserved
see_sets-loop-field-preserved t c = item_seen set_patterns _ _ _ _ _ c.field-item.result c.loop-field-test.true c.field-item.is c.in_ok-met.ensures c.loop-field.invariant

pub see_sets-returns : goal.see_sets-returns
see_sets-returns t c = list_seen set_patterns _ _ _ _ c.loop-field-test.false c.loop-field.invariant
