use Rattle.sk_dag.specs.Eval.{Keeps}
use Rattle.sk_dag.specs.Reach.{OnlyMarked, StandForMarked}
use Rattle.sk_simplify.specs.Rules.{IsSimple}
use Rattle.sk_simplify.proofs.rebuild.rebuild.Given as goal

abbrev pub invariant-loop-i : goal.invariant-loop-i
invariant-loop-i l = record {
  keeps : Keeps l.fn.new l.new;
  simple : IsSimple l.new;
  copied : StandForMarked l.dag l.new l.marks l.numbers.items l.i;
  only : OnlyMarked l.fn.new l.new l.marks l.numbers.items l.i;
}
