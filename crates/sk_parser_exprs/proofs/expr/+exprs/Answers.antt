use Rattle.std.proofs.Common.{◌<◌, ◌-◌, suc, sym, ◌∙◌, subst, arith}
use Rattle.std.proofs.lemmas.Result.{err_from_is_err_and}
use Rattle.sk_parser_laws.specs.ExprReader.{expr_at}
use Rattle.sk_parser_laws.specs.StringReader.{offers}
use Rattle.sk_parser_laws.proofs.Loops.{fails_as, repeated_ends, repeated_stops, repeated_more}
use Rattle.sk_parser_laws.proofs.Offers.{exprs_sound, next_expr_takes, next_field_takes, behind_base_takes, behind_operand_takes}
use Rattle.sk_parser_exprs.proofs.expr.+exprs.Goals as goal

pub more_exprs-returns-in_err-more : goal.more_exprs-returns-in_err-more
more_exprs-returns-in_err-more t c =
    let p = err_from_is_err_and c.from_residual.result c.from_residual.ensures.1 in
    rw (p.1, p.2) (fails_as _ _ _ c.loop-alloc.invariant (repeated_stops _ _ _ _ _ (sym c.loop-alloc-test.ensures) c.in_err-more.ensures))

pub more_exprs-loop-alloc-smaller : goal.more_exprs-loop-alloc-smaller
more_exprs-loop-alloc-smaller t c = (next_expr_takes c.args.in_text c.args.inner).takes _ _ _ _ c.in_ok-more.ensures

pub more_exprs-loop-alloc-preserved : goal.more_exprs-loop-alloc-preserved
more_exprs-loop-alloc-preserved t c =
    c.loop-alloc.invariant
    ∙ repeated_more _ _ (next_expr_takes c.args.in_text c.args.inner) _ _ _ _ (sym c.loop-alloc-test.ensures) c.in_ok-more.ensures

pub more_exprs-returns : goal.more_exprs-returns
more_exprs-returns t c = c.loop-alloc.invariant ∙ repeated_ends _ _ _ _ (sym c.loop-alloc-test.ensures)

pub more_fields-returns-in_err-more : goal.more_fields-returns-in_err-more
more_fields-returns-in_err-more t c =
    let p = err_from_is_err_and c.from_residual.result c.from_residual.ensures.1 in
    rw (p.1, p.2) (fails_as _ _ _ c.loop-alloc.invariant (repeated_stops _ _ _ _ _ (sym c.loop-alloc-test.ensures) c.in_err-more.ensures))

pub more_fields-loop-alloc-smaller : goal.more_fields-loop-alloc-smaller
more_fields-loop-alloc-smaller t c = (next_field_takes c.args.in_text c.args.budget c.requires).takes _ _ _ _ c.in_ok-more.ensures

pub more_fields-loop-alloc-preserved : goal.more_fields-loop-alloc-preserved
more_fields-loop-alloc-preserved t c =
    c.loop-alloc.invariant
    ∙ repeated_more _ _ (next_field_takes c.args.in_text c.args.budget c.requires) _ _ _ _ (sym c.loop-alloc-test.ensures) c.in_ok-more.ensures

pub more_fields-returns : goal.more_fields-returns
more_fields-returns t c = c.loop-alloc.invariant ∙ repeated_ends _ _ _ _ (sym c.loop-alloc-test.ensures)

pub behind_bases-returns-in_err-more : goal.behind_bases-returns-in_err-more
behind_bases-returns-in_err-more t c =
    let p = err_from_is_err_and c.from_residual.result c.from_residual.ensures.1 in
    rw (p.1, p.2) (fails_as _ _ _ c.loop-alloc.invariant (repeated_stops _ _ _ _ _ (sym c.loop-alloc-test.ensures) c.in_err-more.ensures))

pub behind_bases-loop-alloc-smaller : goal.behind_bases-loop-alloc-smaller
behind_bases-loop-alloc-smaller t c = (behind_base_takes c.args.in_text c.args.budget c.args.start.now c.requires).takes _ _ _ _ c.in_ok-more.ensures

pub behind_bases-loop-alloc-preserved : goal.behind_bases-loop-alloc-preserved
behind_bases-loop-alloc-preserved t c =
    c.loop-alloc.invariant
    ∙ repeated_more _ _ (behind_base_takes c.args.in_text c.args.budget c.args.start.now c.requires) _ _ _ _ (sym c.loop-alloc-test.ensures) c.in_ok-more.ensures

pub behind_bases-returns : goal.behind_bases-returns
behind_bases-returns t c = c.loop-alloc.invariant ∙ repeated_ends _ _ _ _ (sym c.loop-alloc-test.ensures)

pub chain_at-returns-in_err-more : goal.chain_at-returns-in_err-more
chain_at-returns-in_err-more t c =
    let p = err_from_is_err_and c.from_residual.result c.from_residual.ensures.1 in
    rw (p.1, p.2) (fails_as _ _ _ c.loop-alloc.invariant (repeated_stops _ _ _ _ _ (sym c.loop-alloc-test.ensures) c.in_err-more.ensures))

pub chain_at-loop-alloc-smaller : goal.chain_at-loop-alloc-smaller
chain_at-loop-alloc-smaller t c = (behind_operand_takes c.args.in_text c.args.budget c.args.start.now c.requires).takes _ _ _ _ c.in_ok-more.ensures

pub chain_at-loop-alloc-preserved : goal.chain_at-loop-alloc-preserved
chain_at-loop-alloc-preserved t c =
    c.loop-alloc.invariant
    ∙ repeated_more _ _ (behind_operand_takes c.args.in_text c.args.budget c.args.start.now c.requires) _ _ _ _ (sym c.loop-alloc-test.ensures) c.in_ok-more.ensures

pub chain_at-returns : goal.chain_at-returns
chain_at-returns t c = c.loop-alloc.invariant ∙ repeated_ends _ _ _ _ (sym c.loop-alloc-test.ensures)
