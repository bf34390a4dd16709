use Rattle.std.proofs.Common.{length, ◌+◌}
use Rattle.sk_arr.proofs.target.+add_targets.Given as goal

-- each step takes one from at least one of the two
abbrev pub decreases-add_targets : goal.decreases-add_targets
decreases-add_targets l = length l.a.now + length l.b.now
