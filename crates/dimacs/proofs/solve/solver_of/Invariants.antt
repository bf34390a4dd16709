use Rattle.std.proofs.Common.{◌≡◌, take}
use Rattle.dimacs.proofs.solve.solver_of.Given as goal

abbrev pub invariant-loop-i : goal.invariant-loop-i
invariant-loop-i l = (l.solver.vars ≡ l.clauses.vars) × (l.solver.added ≡ take l.i l.clauses.clauses)
