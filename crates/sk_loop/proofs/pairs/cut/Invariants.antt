use Rattle.std.proofs.Common.{◌≡◌, ◌≤◌, length, take}
use Rattle.sk_loop.proofs.pairs.cut.Given as goal

-- the first pairs stay
abbrev pub invariant-loop-pairs : goal.invariant-loop-pairs
invariant-loop-pairs l = (l.len ≤ length l.pairs) × (take l.len l.pairs ≡ take l.len l.initial.pairs)

abbrev pub decreases-loop-pairs : goal.decreases-loop-pairs
decreases-loop-pairs l = length l.pairs
