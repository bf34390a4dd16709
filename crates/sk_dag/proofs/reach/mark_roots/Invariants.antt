use Rattle.std.proofs.Common.{◌≡◌, take}
use Rattle.sk_dag.specs.declared.node.BoolId.{BoolId}
use Rattle.sk_dag.specs.Reach.{with_marks}
use Rattle.sk_dag.proofs.reach.mark_roots.Given as goal

abbrev pub invariant-loop-root : goal.invariant-loop-root
invariant-loop-root l = l.marks ≡ with_marks (λ (r : BoolId). r.index) (take l.root-index l.roots) l.fn.marks
