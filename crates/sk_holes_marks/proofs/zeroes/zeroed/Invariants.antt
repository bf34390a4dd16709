use Rattle.std.proofs.Common.{◌≡◌, drop, ◌++◌}
use Rattle.sk_holes_marks.specs.Zeroed.{zeroed}
use Rattle.sk_holes_marks.proofs.zeroes.zeroed.Given as goal

-- the values so far, and those that are left
abbrev pub invariant-loop-i : goal.invariant-loop-i
invariant-loop-i l = l.all ++ zeroed l.marks l.i (drop l.i l.values) ≡ zeroed l.marks 0 l.values
