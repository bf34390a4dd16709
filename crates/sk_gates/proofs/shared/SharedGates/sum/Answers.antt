use Rattle.std.proofs.Common.{ap, ◌∙◌}
use Rattle.sk_gates.specs.Bits.{bit_true, differ}
use Rattle.sk_gates.proofs.SharingLaws.{Builds-then}
use Rattle.sk_gates.proofs.shared.SharedGates.sum.Goals as goal

pub returns-clause-gate : goal.returns-clause-gate
returns-clause-gate c = Builds-then _ _ _ c.in_ok-either.ensures.gate c.in_ok-r.ensures.gate (λ v p q. q ∙ ap (λ x. differ x (bit_true v c.args.c)) p)
