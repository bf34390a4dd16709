use Rattle.std.proofs.Common.{◌≡◌, take}
use Rattle.sk_loop_refuted.proofs.solving.load.Given as goal

-- the solver has the clauses so far
abbrev pub invariant-loop-i : goal.invariant-loop-i
invariant-loop-i l = (l.solver.vars ≡ l.clauses.vars) × (l.solver.added ≡ take l.i l.clauses.clauses) × (l.solver.learnt ≡ l.fn.solver.learnt)
