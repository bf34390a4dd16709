use Rattle.std.proofs.Common.{length}
use Rattle.sk_heap.proofs.read.+any_of.Given as goal

-- each step takes one target
abbrev pub decreases-any_of : goal.decreases-any_of
decreases-any_of l = length l.targets.now
