use Rattle.sk_dag.specs.Eval.{Keeps}
use Rattle.sk_arr.specs.Shapes.{AllStand}
use Rattle.rows_sym.proofs.input.shapes_of.Given as goal

-- those so far stand
abbrev pub invariant-loop-param : goal.invariant-loop-param
invariant-loop-param l = record {
  keeps : Keeps l.initial.dag l.dag;
  stand : AllStand l.dag l.made;
}
