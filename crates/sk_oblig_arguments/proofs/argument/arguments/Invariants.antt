use Rattle.std.proofs.Common.{◌≡◌, ◌+◌, take}
use Rattle.sk_dag.specs.Eval.{Keeps}
use Rattle.sk_oblig_arguments.specs.Arguments.{AreArguments, count_of}
use Rattle.sk_oblig_arguments.proofs.argument.arguments.Given as goal

-- those so far read the scalars so far
abbrev pub invariant-loop-param : goal.invariant-loop-param
invariant-loop-param l = record {
  keeps : Keeps l.initial.dag l.dag;
  place : l.at ≡ l.fn.first + count_of (take l.param-index l.fn.params);
  read : AreArguments l.dag (take l.param-index l.fn.params) l.fn.first l.made;
}
