use Rattle.std.proofs.Common.{◌≡◌, ◌-◌, length}
use Rattle.sk_prune.specs.Reached.{visits, first}
use Rattle.sk_prune.specs.Found.{as_reached}
use Rattle.sk_prune.proofs.reached.marks.Given as goal

-- to make the visits from here is to make all
abbrev pub invariant-loop-i : goal.invariant-loop-i
invariant-loop-i l = visits l.funs (as_reached l.reach) l.i (length l.funs - l.i) ≡ visits l.funs (first l.funs) 0 (length l.funs)
