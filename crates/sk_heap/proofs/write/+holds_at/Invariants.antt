use Rattle.std.proofs.Common.{length}
use Rattle.sk_heap.proofs.write.+holds_at.Given as goal

-- each step takes one target
abbrev pub decreases-holds_at : goal.decreases-holds_at
decreases-holds_at l = length l.targets.now
