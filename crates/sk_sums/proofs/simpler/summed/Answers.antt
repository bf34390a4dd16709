use Rattle.std.proofs.Common.{◌∙◌}
use Rattle.sk_dag.proofs.EvalLemmas.{Keeps-bits}
use Rattle.sk_dag.proofs.ReachLemmas.{IsClosed-reached}
use Rattle.sk_simplify.proofs.SimpleLemmas.{KeepsRoots-made, roots_within}
use Rattle.sk_sums.proofs.simpler.summed.Goals as goal

pub rebuild-requires-clause-closed : goal.rebuild-requires-clause-closed
rebuild-requires-clause-closed c = IsClosed-reached _ _ _ c.requires.marks

pub new_roots-requires : goal.new_roots-requires
new_roots-requires c = rw c.deref.ensures.value (roots_within _ _ _ c.requires.roots c.in_ok-numbers.ensures.copied.length)

pub returns-clause-width : goal.returns-clause-width
returns-clause-width c = Keeps-bits c.rebuild.ensures.keeps ∙ c.new-new.ensures.bits ∙ c.int_bits.ensures.width

pub returns-clause-roots : goal.returns-clause-roots
returns-clause-roots c =
    rw (c.in_ok-made.ensures, c.deref.ensures.value) (KeepsRoots-made _ _ _ c.requires.roots c.requires.marks c.in_ok-numbers.ensures.copied)
