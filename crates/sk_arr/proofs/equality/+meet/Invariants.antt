use Rattle.std.proofs.Common.{length}
use Rattle.sk_arr.proofs.equality.+meet.Given as goal

-- each step takes one
abbrev pub decreases-meet : goal.decreases-meet
decreases-meet l = length l.a.now
