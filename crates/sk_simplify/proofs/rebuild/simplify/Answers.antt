use Rattle.std.proofs.Common.{◌∙◌}
use Rattle.sk_dag.proofs.EvalLemmas.{Keeps-bits}
use Rattle.sk_dag.proofs.ReachLemmas.{IsClosed-reached}
use Rattle.sk_simplify.proofs.SimpleLemmas.{KeepsRoots-made, OnlyBelow-made, roots_within}
use Rattle.sk_simplify.proofs.rebuild.simplify.Goals as goal

pub rebuild-requires-clause-closed : goal.rebuild-requires-clause-closed
rebuild-requires-clause-closed c = rw c.as_slice.ensures (IsClosed-reached _ _ _ c.in_ok-marks.ensures)

pub new_roots-requires : goal.new_roots-requires
new_roots-requires c = rw c.deref.ensures.value (roots_within _ _ _ c.requires c.in_ok-numbers.ensures.copied.length)

pub returns-clause-width : goal.returns-clause-width
returns-clause-width c = Keeps-bits c.rebuild.ensures.keeps ∙ c.new-new.ensures.bits ∙ c.int_bits.ensures.width

pub returns-clause-roots : goal.returns-clause-roots
returns-clause-roots c =
    let copied = rw c.as_slice.ensures at c.in_ok-numbers.ensures.copied in
    rw (c.in_ok-made.ensures, c.deref.ensures.value) (KeepsRoots-made _ _ _ c.requires c.in_ok-marks.ensures copied)

pub returns-clause-only : goal.returns-clause-only
returns-clause-only c =
    let copied = rw c.as_slice.ensures at c.in_ok-numbers.ensures.copied in
    let only = rw c.as_slice.ensures at c.in_ok-numbers.ensures.only in
    OnlyBelow-made _ _ c.args.roots.now c.in_ok-marks.ensures c.new-new.ensures.nodes copied only
