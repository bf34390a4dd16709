use Rattle.std.proofs.Common.{take}
use Rattle.sk_sat.specs.Round.{IsUnlike}
use Rattle.sk_sat.proofs.known.scan_inside.Given as goal

abbrev pub invariant-loop-j : goal.invariant-loop-j
invariant-loop-j l = IsUnlike (take l.j l.list) l.clause
