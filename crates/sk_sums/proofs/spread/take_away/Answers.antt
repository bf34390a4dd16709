use Rattle.std.proofs.Common.{refl}
use Rattle.sk_sums.proofs.SumLemmas.{value_removed}
use Rattle.sk_sums.proofs.spread.take_away.Goals as goal

pub returns-clause-value : goal.returns-clause-value
returns-clause-value c = λ vs. value_removed vs c.args.sum.now _ c.args.place c.requires refl c.remove.ensures.items
