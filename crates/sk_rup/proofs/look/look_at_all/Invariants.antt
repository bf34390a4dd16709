use Rattle.sk_rup.specs.Steps.{Steps}
use Rattle.sk_rup.proofs.PassLemmas.{PassSoFar}
use Rattle.sk_rup.proofs.look.look_at_all.Given as goal

abbrev pub invariant-loop-i : goal.invariant-loop-i
invariant-loop-i l = record {
  steps : Steps l.known l.fn.trail l.trail;
  so_far : PassSoFar l.known l.i l.fn.trail l.trail l.outcome;
}
