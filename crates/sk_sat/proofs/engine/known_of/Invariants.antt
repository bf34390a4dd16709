use Rattle.std.proofs.Common.{◌≡◌, take}
use Rattle.sk_sat.proofs.engine.known_of.Given as goal

abbrev pub invariant-loop-i : goal.invariant-loop-i
invariant-loop-i l = l.known ≡ take l.i l.clauses
