use Rattle.std.proofs.Common.{replicate, ◌*◌}
use Rattle.sk_dag.specs.Eval.{Keeps}
use Rattle.sk_oblig_queries.specs.Said.{rows_said}
use Rattle.sk_oblig_queries.specs.Widths.{elem_width}
use Rattle.sk_oblig_arguments.specs.Arguments.{AllRead}
use Rattle.sk_oblig_arguments.proofs.argument.rows_at.Given as goal

-- those so far read the scalars so far
abbrev pub invariant-loop-k : goal.invariant-loop-k
invariant-loop-k l = record {
  keeps : Keeps l.initial.dag l.dag;
  read : AllRead l.dag (λ inbits. replicate (l.fn.length * l.k) (elem_width inbits l.fn.elem)) (rows_said l.fn.elem l.fn.length l.k) l.fn.first l.made;
}
