use Rattle.std.proofs.Common.{length}
use Rattle.sk_arr.proofs.equality.+slot_holds.Given as goal

-- each step takes one
abbrev pub decreases-slot_holds : goal.decreases-slot_holds
decreases-slot_holds l = length l.targets.now
