use Rattle.std.proofs.Common.{◌≤◌, take}
use Rattle.sk_rup.proofs.log.vars_of_clause.Given as goal
use Rattle.sk_clause.specs.Problem.{IsWithin}

abbrev pub invariant-loop-l : goal.invariant-loop-l
invariant-loop-l l = IsWithin l.vars (take l.l-index l.clause) × (l.fn.least ≤ l.vars)
