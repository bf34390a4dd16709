use Rattle.std.proofs.Common.{sym, subst}
use Rattle.sk_model.specs.Fill.{Fits}
use Rattle.sk_sym_literals.proofs.Holes.{chosen_bit}
use Rattle.sk_sym_literals.proofs.hole.hole_bit.Goals as goal

pub returns-clause-chosen : goal.returns-clause-chosen
returns-clause-chosen c =
    chosen_bit c.args.dag.now.bits c.args.site c.size_of-size.result (λ values h. c.size_of-size.ensures values (subst (λ s. Fits s values) (sym c.as_slice.ensures) h))
    c.in_ok-id.ensures.there c.in_ok-id.ensures.value
