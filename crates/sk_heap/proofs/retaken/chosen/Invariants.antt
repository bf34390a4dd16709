use Rattle.std.proofs.Common.{◌≡◌}
use Rattle.sk_dag.specs.Eval.{Keeps}
use Rattle.sk_heap.proofs.Retakes.{ChosenSoFar}
use Rattle.sk_heap.proofs.retaken.chosen.Given as goal

-- those so far are chosen
abbrev pub invariant-loop-a : goal.invariant-loop-a
invariant-loop-a l = record {
  keeps : Keeps l.initial.dag l.dag;
  place : l.i ≡ l.a-index;
  chosen : ChosenSoFar l.dag l.guard l.list l.others l.made l.a-index;
}
