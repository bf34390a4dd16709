use Rattle.std.proofs.Common.{◌≡◌, length}
use Rattle.sk_dag.specs.Eval.{Keeps}
use Rattle.sk_sym_state.specs.Branching.{AreMerged}
use Rattle.sk_sym_state.proofs.branch.merged.Given as goal

-- so many are merged
abbrev pub invariant-loop-a : goal.invariant-loop-a
invariant-loop-a l = record {
  keeps : Keeps l.initial.dag l.dag;
  place : l.i ≡ l.a-index;
  count : l.a-index ≡ length l.made;
  merged : AreMerged l.dag l.cond l.first l.second l.made;
}
