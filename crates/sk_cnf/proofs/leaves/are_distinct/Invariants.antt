use Rattle.std.proofs.Common.{◌≡◌, take}
use Rattle.sk_cnf.specs.Formula.{AreLeaves}
use Rattle.sk_cnf.proofs.leaves.are_distinct.Given as goal

abbrev pub invariant-loop-i : goal.invariant-loop-i
invariant-loop-i l = record { keys : l.seen.keys ≡ take l.i l.leaves; apart : AreLeaves (take l.i l.leaves) }
