use Rattle.std.proofs.Common.{◌≡◌, ◌++◌, take}
use Rattle.sk_sat.proofs.solver.extend.Given as goal

abbrev pub invariant-loop-i : goal.invariant-loop-i
invariant-loop-i l = l.list ≡ l.fn.list ++ take l.i l.more
