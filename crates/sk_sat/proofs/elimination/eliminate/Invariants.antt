use Rattle.sk_sat.specs.Elimination.{Gathers}
use Rattle.sk_sat.proofs.elimination.eliminate.Given as goal

abbrev pub invariant-loop : goal.invariant-loop
invariant-loop l = Gathers l.fn.known l.known l.fn.fresh l.fresh
