use Rattle.std.proofs.Common.{replicate}
use Rattle.sk_dag.specs.Eval.{Keeps}
use Rattle.sk_oblig_queries.specs.Said.{row_said}
use Rattle.sk_oblig_queries.specs.Widths.{elem_width}
use Rattle.sk_oblig_arguments.specs.Arguments.{AllRead}
use Rattle.sk_oblig_arguments.proofs.argument.row_at.Given as goal

-- those so far read the scalars so far
abbrev pub invariant-loop-k : goal.invariant-loop-k
invariant-loop-k l = record {
  keeps : Keeps l.initial.dag l.dag;
  read : AllRead l.dag (λ inbits. replicate l.k (elem_width inbits l.fn.elem)) (row_said l.fn.elem l.k) l.fn.first l.made;
}
