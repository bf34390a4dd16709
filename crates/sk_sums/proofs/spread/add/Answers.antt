use Rattle.std.proofs.Common.{refl}
use Rattle.sk_sums.proofs.SumLemmas.{value_taken, value_inserted}
use Rattle.sk_sums.proofs.spread.add.Goals as goal

pub returns-then-stands_at-clause-value : goal.returns-then-stands_at-clause-value
returns-then-stands_at-clause-value c =
    let stands = rw c.deref-2.ensures.value at (c.stands_at.ensures c.if-stands_at.true) in
    λ vs. value_taken vs c.args.sum.now _ c.place_of-place.result c.args.term stands refl c.remove.ensures.items

pub returns-clause-value : goal.returns-clause-value
returns-clause-value c = λ vs. value_inserted vs c.args.sum.now _ c.place_of-place.result c.args.term refl c.in_ok-insert.ensures.items
