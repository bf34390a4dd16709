use Rattle.sk_dag.specs.Eval.{Keeps}
use Rattle.sk_dag.specs.Reach.{StandForMarked}
use Rattle.sk_sums.proofs.simpler.rebuild.Given as goal

abbrev pub invariant-loop-i : goal.invariant-loop-i
invariant-loop-i l = record {
  keeps : Keeps l.fn.new l.new;
  copied : StandForMarked l.dag l.new l.marks l.numbers.items l.i;
}
