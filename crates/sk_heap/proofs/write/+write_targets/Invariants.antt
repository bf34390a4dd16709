use Rattle.std.proofs.Common.{length}
use Rattle.sk_heap.proofs.write.+write_targets.Given as goal

-- each step takes one target
abbrev pub decreases-write_targets : goal.decreases-write_targets
decreases-write_targets l = length l.targets.now
