use Rattle.std.proofs.Common.{take}
use Rattle.sk_dag.specs.Eval.{Keeps}
use Rattle.sk_oblig_arguments.specs.Constants.{AreConstant}
use Rattle.sk_oblig_arguments.proofs.constant.+constant.Given as goal

-- those so far are constants
abbrev pub invariant-constants-loop-value : goal.invariant-constants-loop-value
invariant-constants-loop-value l = record {
  keeps : Keeps l.initial.dag l.dag;
  made : AreConstant l.dag (take l.value-index l.values) l.made;
}
