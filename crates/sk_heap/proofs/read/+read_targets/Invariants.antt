use Rattle.std.proofs.Common.{length}
use Rattle.sk_heap.proofs.read.+read_targets.Given as goal

-- each step takes one target
abbrev pub decreases-read_targets : goal.decreases-read_targets
decreases-read_targets l = length l.targets.now
