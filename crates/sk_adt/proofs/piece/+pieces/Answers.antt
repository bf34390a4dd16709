use Rattle.std.proofs.Common.{sym, ◌∙◌, []}
use Rattle.std.proofs.lemmas.Result.{err_from_is_err_and}
use Rattle.sk_parser_laws.proofs.Loops.{fails_as, repeated_ends, repeated_stops, repeated_more}
use Rattle.sk_adt.specs.Forms.{pieces_from}
use Rattle.sk_adt.proofs.Shorter.{cases_shrink}
use Rattle.sk_adt.proofs.piece.+pieces.Goals as goal

pub more_cases-returns-in_err-more : goal.more_cases-returns-in_err-more
more_cases-returns-in_err-more t c =
    let p = err_from_is_err_and c.from_residual.result c.from_residual.ensures.1 in
    rw (p.1, p.2) (fails_as _ _ _ c.loop-alloc.invariant (repeated_stops _ _ _ _ _ (sym c.loop-alloc-test.ensures) c.in_err-more.ensures))

pub more_cases-loop-alloc-smaller : goal.more_cases-loop-alloc-smaller
more_cases-loop-alloc-smaller t c = (cases_shrink (pieces_from c.args.left [])).takes _ _ _ _ c.in_ok-more.ensures

pub more_cases-loop-alloc-preserved : goal.more_cases-loop-alloc-preserved
more_cases-loop-alloc-preserved t c =
    c.loop-alloc.invariant ∙ repeated_more _ _ (cases_shrink (pieces_from c.args.left [])) _ _ _ _ (sym c.loop-alloc-test.ensures) c.in_ok-more.ensures

pub more_cases-returns : goal.more_cases-returns
more_cases-returns t c = c.loop-alloc.invariant ∙ repeated_ends _ _ _ _ (sym c.loop-alloc-test.ensures)
