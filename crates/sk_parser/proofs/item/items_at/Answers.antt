use Rattle.std.proofs.Common.{sym, ◌∙◌}
use Rattle.std.proofs.lemmas.Result.{err_from_is_err_and}
use Rattle.sk_parser_laws.proofs.Loops.{fails_as, repeated_ends, repeated_stops, repeated_more}
use Rattle.sk_parser_laws.proofs.ItemTakes.{next_item_takes}
use Rattle.sk_parser.proofs.item.items_at.Goals as goal

pub returns-in_err-more : goal.returns-in_err-more
returns-in_err-more c =
    let p = err_from_is_err_and c.from_residual.result c.from_residual.ensures.1 in
    rw (p.1, p.2) (fails_as _ _ _ c.loop-alloc.invariant (repeated_stops _ _ _ _ _ (sym c.loop-alloc-test.ensures) c.in_err-more.ensures))

pub loop-alloc-smaller : goal.loop-alloc-smaller
loop-alloc-smaller c = next_item_takes.takes _ _ _ _ c.in_ok-more.ensures

pub loop-alloc-preserved : goal.loop-alloc-preserved
loop-alloc-preserved c =
    c.loop-alloc.invariant ∙ repeated_more _ _ next_item_takes _ _ _ _ (sym c.loop-alloc-test.ensures) c.in_ok-more.ensures

pub returns : goal.returns
returns c = c.loop-alloc.invariant ∙ repeated_ends _ _ _ _ (sym c.loop-alloc-test.ensures)
