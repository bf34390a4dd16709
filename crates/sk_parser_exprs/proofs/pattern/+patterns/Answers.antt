use Rattle.std.proofs.Common.{sym, ◌∙◌}
use Rattle.std.proofs.lemmas.Result.{err_from_is_err_and}
use Rattle.sk_parser_laws.specs.PatternReader.{pattern_at}
use Rattle.sk_parser_laws.proofs.Loops.{fails_as, repeated_ends, repeated_stops, repeated_more}
use Rattle.sk_parser_laws.proofs.PatternSound.{pattern_sound, next_part_shrinks, next_sequence_shrinks}
use Rattle.sk_parser_exprs.proofs.pattern.+patterns.Goals as goal

pub more_parts-returns-in_err-more : goal.more_parts-returns-in_err-more
more_parts-returns-in_err-more t c =
    let p = err_from_is_err_and c.from_residual.result c.from_residual.ensures.1 in
    rw (p.1, p.2) (fails_as _ _ _ c.loop-alloc.invariant (repeated_stops _ _ _ _ _ (sym c.loop-alloc-test.ensures) c.in_err-more.ensures))

pub more_parts-loop-alloc-smaller : goal.more_parts-loop-alloc-smaller
more_parts-loop-alloc-smaller t c =
    (next_part_shrinks c.args.inner (pattern_at c.args.inner) (pattern_sound c.args.inner)).takes _ _ _ _ c.in_ok-more.ensures

pub more_parts-loop-alloc-preserved : goal.more_parts-loop-alloc-preserved
more_parts-loop-alloc-preserved t c =
    c.loop-alloc.invariant
    ∙ repeated_more _ _ (next_part_shrinks c.args.inner (pattern_at c.args.inner) (pattern_sound c.args.inner)) _ _ _ _ (sym c.loop-alloc-test.ensures) c.in_ok-more.ensures

pub more_parts-returns : goal.more_parts-returns
more_parts-returns t c = c.loop-alloc.invariant ∙ repeated_ends _ _ _ _ (sym c.loop-alloc-test.ensures)

pub more_sequences-returns-in_err-more : goal.more_sequences-returns-in_err-more
more_sequences-returns-in_err-more t c =
    let p = err_from_is_err_and c.from_residual.result c.from_residual.ensures.1 in
    rw (p.1, p.2) (fails_as _ _ _ c.loop-alloc.invariant (repeated_stops _ _ _ _ _ (sym c.loop-alloc-test.ensures) c.in_err-more.ensures))

pub more_sequences-loop-alloc-smaller : goal.more_sequences-loop-alloc-smaller
more_sequences-loop-alloc-smaller t c =
    (next_sequence_shrinks c.args.inner (pattern_at c.args.inner) (pattern_sound c.args.inner)).takes _ _ _ _ c.in_ok-more.ensures

pub more_sequences-loop-alloc-preserved : goal.more_sequences-loop-alloc-preserved
more_sequences-loop-alloc-preserved t c =
    c.loop-alloc.invariant
    ∙ repeated_more _ _ (next_sequence_shrinks c.args.inner (pattern_at c.args.inner) (pattern_sound c.args.inner)) _ _ _ _ (sym c.loop-alloc-test.ensures) c.in_ok-more.ensures

pub more_sequences-returns : goal.more_sequences-returns
more_sequences-returns t c = c.loop-alloc.invariant ∙ repeated_ends _ _ _ _ (sym c.loop-alloc-test.ensures)
