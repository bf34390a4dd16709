use Rattle.std.proofs.Common.{sym, ◌∙◌}
use Rattle.std.proofs.lemmas.Result.{err_from_is_err_and}
use Rattle.sk_parser_laws.proofs.Loops.{fails_as, repeated_ends, repeated_stops, repeated_more}
use Rattle.sk_parser_laws.proofs.StmtTakes.{next_stmt_takes}
use Rattle.sk_parser_stmts.proofs.stmt.+stmts.Goals as goal

pub more_stmts-returns-in_err-more : goal.more_stmts-returns-in_err-more
more_stmts-returns-in_err-more t c =
    let p = err_from_is_err_and c.from_residual.result c.from_residual.ensures.1 in
    rw (p.1, p.2) (fails_as _ _ _ c.loop-alloc.invariant (repeated_stops _ _ _ _ _ (sym c.loop-alloc-test.ensures) c.in_err-more.ensures))

pub more_stmts-loop-alloc-smaller : goal.more_stmts-loop-alloc-smaller
more_stmts-loop-alloc-smaller t c = (next_stmt_takes c.args.inner).takes _ _ _ _ c.in_ok-more.ensures

pub more_stmts-loop-alloc-preserved : goal.more_stmts-loop-alloc-preserved
more_stmts-loop-alloc-preserved t c =
    c.loop-alloc.invariant ∙ repeated_more _ _ (next_stmt_takes c.args.inner) _ _ _ _ (sym c.loop-alloc-test.ensures) c.in_ok-more.ensures

pub more_stmts-returns : goal.more_stmts-returns
more_stmts-returns t c = c.loop-alloc.invariant ∙ repeated_ends _ _ _ _ (sym c.loop-alloc-test.ensures)
