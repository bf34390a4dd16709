use Rattle.std.proofs.Common.{◌≡◌, length}
use Rattle.sk_sums.proofs.choice.chosen.Given as goal

abbrev pub invariant-loop-i : goal.invariant-loop-i
invariant-loop-i l = length l.made.items ≡ l.i
