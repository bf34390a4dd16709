use Rattle.std.proofs.Common.{◌≡◌, take}
use Rattle.sk_loop_laws.specs.Laws.{with_learnt}
use Rattle.sk_loop.proofs.solving.with_learnt.Given as goal

-- the formula with the learnt clauses so far
abbrev pub invariant-loop-i : goal.invariant-loop-i
invariant-loop-i l = l.formula ≡ with_learnt l.encoded (take l.i l.solver.learnt)
