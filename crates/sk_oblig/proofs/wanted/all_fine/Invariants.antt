use Rattle.std.proofs.Common.{take}
use Rattle.sk_dag.specs.Eval.{Keeps}
use Rattle.sk_oblig.specs.Nodes.{SaysAllFine}
use Rattle.sk_oblig.proofs.wanted.all_fine.Given as goal

-- the test is done for those so far
abbrev pub invariant-loop-input : goal.invariant-loop-input
invariant-loop-input l = record {
  keeps : Keeps l.initial.dag l.dag;
  fine : SaysAllFine l.dag l.fn.expanded l.fn.bounds l.fn.limit (take l.input-index l.fn.inputs) l.all;
}
