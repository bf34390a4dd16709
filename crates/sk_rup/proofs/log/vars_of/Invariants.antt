use Rattle.std.proofs.Common.{◌≤◌, take}
use Rattle.sk_rup.proofs.log.vars_of.Given as goal
use Rattle.sk_clause.specs.Problem.{AreWithin}

abbrev pub invariant-loop-i : goal.invariant-loop-i
invariant-loop-i l = AreWithin l.vars (take l.i l.clauses) × (l.fn.least ≤ l.vars)
