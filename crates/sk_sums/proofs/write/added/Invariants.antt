use Rattle.std.proofs.Common.{◌≡◌, drop}
use Rattle.sk_dag.specs.declared.env.Env.{Env}
use Rattle.sk_dag.specs.Graph.{Graph, Grows, HasBool}
use Rattle.sk_dag.specs.Eval.{Keeps, bool_value, graph_values}
use Rattle.sk_sums.specs.Sums.{plus, sum_at}
use Rattle.sk_sums.proofs.write.added.Given as goal

abbrev pub invariant-loop-term : goal.invariant-loop-term
invariant-loop-term l = record {
  keeps : Keeps l.fn.dag l.dag;
  there : HasBool l.dag.nodes l.all;
  value : (g : Graph) → Grows l.dag g → (e : Env) → plus (bool_value g e l.all) (sum_at (graph_values g e) (drop l.term-index l.terms)) ≡ sum_at (graph_values g e) l.terms;
}
