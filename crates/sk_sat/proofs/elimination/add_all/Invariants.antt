use Rattle.sk_sat.specs.Elimination.{Gathers}
use Rattle.sk_sat.proofs.elimination.add_all.Given as goal

abbrev pub invariant-loop-i : goal.invariant-loop-i
invariant-loop-i l = Gathers l.fn.known l.known l.fn.fresh l.fresh

abbrev pub invariant-loop-j : goal.invariant-loop-j
invariant-loop-j l = Gathers l.fn.known l.known l.fn.fresh l.fresh
