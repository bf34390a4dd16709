use Rattle.std.proofs.Common.{◌≡◌}
use Rattle.sk_sums.proofs.spread.place_of.Given as goal

abbrev pub invariant-loop-x : goal.invariant-loop-x
invariant-loop-x l = l.below ≡ l.x-index
