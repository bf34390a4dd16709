use Rattle.sk_sat.specs.Elimination.{Gathers}
use Rattle.sk_sat.proofs.elimination.pass.Given as goal

abbrev pub invariant-loop-var : goal.invariant-loop-var
invariant-loop-var l = Gathers l.fn.known l.known l.fn.fresh l.fresh
