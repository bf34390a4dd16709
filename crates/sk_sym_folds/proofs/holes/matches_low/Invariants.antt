use Rattle.std.proofs.Common.{◌≡◌, ◌%◌, ◌^◌, ◌==◌, slice_index}
use Rattle.sk_dag.specs.declared.env.Env.{Env}
use Rattle.sk_dag.specs.Graph.{Graph, Grows, HasBool}
use Rattle.sk_dag.specs.Eval.{bool_value, Keeps}
use Rattle.sk_sym_folds.proofs.holes.matches_low.Given as goal

-- the test is done for the bits so far
abbrev pub invariant-loop-j : goal.invariant-loop-j
invariant-loop-j l = record {
  keeps : Keeps l.initial.dag l.dag;
  there : HasBool l.dag.nodes l.same;
  value : (g : Graph) → Grows l.dag g → (e : Env) → bool_value g e l.same ≡ (slice_index e.choice l.fn.site % 2 ^ l.j == l.fn.k % 2 ^ l.j);
}
