use Rattle.std.proofs.Common.{◌≡◌, take}
use Rattle.sk_loop_laws.specs.Honest.{inputs_of}
use Rattle.sk_min_laws.specs.Best.{greatest_on}
use Rattle.sk_min.proofs.raise.greatest_on.Given as goal

abbrev pub invariant-loop-pair : goal.invariant-loop-pair
invariant-loop-pair l = l.greatest ≡ greatest_on l.expanded l.bounds l.choice (inputs_of (take l.pair-index l.pairs))
