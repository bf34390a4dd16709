use Rattle.sk_rup.proofs.CheckerLemmas.{Denying}
use Rattle.sk_rup.proofs.checker.deny.Given as goal

abbrev pub invariant-loop-l : goal.invariant-loop-l
invariant-loop-l l = Denying l.clause l.l-index l.fn.trail l.trail
