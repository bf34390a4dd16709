use Rattle.sk_sums.specs.Sums.{SumsTo}
use Rattle.sk_sums.proofs.spread.spread.Given as goal

abbrev pub invariant-loop : goal.invariant-loop
invariant-loop l = SumsTo l.dag l.sum l.fn.top.index
