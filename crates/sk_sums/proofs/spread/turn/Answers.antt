use Rattle.std.proofs.Common.{refl}
use Rattle.sk_sums.proofs.SumLemmas.{value_turned}
use Rattle.sk_sums.proofs.spread.turn.Goals as goal

pub returns-clause-value : goal.returns-clause-value
returns-clause-value c = λ vs. value_turned vs c.args.sum.now _ refl refl
