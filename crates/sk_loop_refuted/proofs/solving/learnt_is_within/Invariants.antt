use Rattle.std.proofs.Common.{take}
use Rattle.sk_clause.specs.Problem.{AreWithin}
use Rattle.sk_loop_refuted.proofs.solving.learnt_is_within.Given as goal

-- the clauses so far are within
abbrev pub invariant-loop-i : goal.invariant-loop-i
invariant-loop-i l = AreWithin l.solver.vars (take l.i l.solver.learnt)
