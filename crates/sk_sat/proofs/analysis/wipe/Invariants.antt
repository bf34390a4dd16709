use Rattle.sk_sat.proofs.TrimLemmas.{Wipes}
use Rattle.sk_sat.proofs.analysis.wipe.Given as goal

abbrev pub invariant-loop-m : goal.invariant-loop-m
invariant-loop-m l = Wipes l.marks l.m-index
