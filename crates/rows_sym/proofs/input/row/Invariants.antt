use Rattle.sk_dag.specs.Eval.{Keeps}
use Rattle.sk_arr.specs.Shapes.{AllStand}
use Rattle.rows_sym.proofs.input.row.Given as goal

-- those so far stand
abbrev pub invariant-loop : goal.invariant-loop
invariant-loop l = record {
  keeps : Keeps l.initial.dag l.dag;
  stand : AllStand l.dag l.parts;
}
