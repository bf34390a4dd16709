use Rattle.sk_dag.specs.Eval.{Keeps}
use Rattle.sk_arr.specs.Steps.{AreReadFrom}
use Rattle.sk_arr.proofs.window.elements_from.Given as goal

-- those so far are read
abbrev pub invariant-loop-j : goal.invariant-loop-j
invariant-loop-j l = record {
  keeps : Keeps l.initial.dag l.dag;
  read : AreReadFrom l.dag l.list l.from l.starts l.j l.made;
}
