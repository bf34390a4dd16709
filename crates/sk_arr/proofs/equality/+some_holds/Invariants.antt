use Rattle.std.proofs.Common.{length}
use Rattle.sk_arr.proofs.equality.+some_holds.Given as goal

-- each step takes one
abbrev pub decreases-some_holds : goal.decreases-some_holds
decreases-some_holds l = length l.targets.now
