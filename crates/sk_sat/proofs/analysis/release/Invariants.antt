use Rattle.sk_sat.proofs.TrimLemmas.{Releases}
use Rattle.sk_sat.proofs.analysis.release.Given as goal

abbrev pub invariant-loop-l : goal.invariant-loop-l
invariant-loop-l l = Releases l.fn.kept l.kept l.out l.l-index
