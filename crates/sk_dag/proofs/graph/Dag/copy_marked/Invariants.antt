use Rattle.sk_dag.specs.Eval.{Keeps}
use Rattle.sk_dag.specs.Reach.{StandForMarked, CopiesMarked, OnlyMarked}
use Rattle.sk_dag.proofs.graph.Dag.copy_marked.Given as goal

abbrev pub invariant-loop-i : goal.invariant-loop-i
invariant-loop-i l = record {
  keeps : Keeps l.fn.self l.self;
  copied : StandForMarked l.other l.self l.marks l.numbers.items l.i;
  copies : CopiesMarked l.other l.self l.marks l.numbers.items l.i;
  only : OnlyMarked l.fn.self l.self l.marks l.numbers.items l.i;
}
