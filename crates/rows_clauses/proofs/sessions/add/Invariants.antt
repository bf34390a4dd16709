use Rattle.std.proofs.Common.{◌≤◌}
use Rattle.rows_clauses.proofs.sessions.add.Given as goal

abbrev pub invariant-loop-i : goal.invariant-loop-i
invariant-loop-i l = l.vars ≤ l.solver.vars
