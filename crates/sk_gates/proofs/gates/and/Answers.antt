use Rattle.std.proofs.Common.{◌∙◌}
use Rattle.sk_gates.proofs.ExtensionLaws.{Adds-then}
use Rattle.sk_gates.proofs.gates.and.Goals as goal

pub returns-clause-gate : goal.returns-clause-gate
returns-clause-gate c = Adds-then _ _ _ c.in_ok-bit.ensures.gate c.in_ok-r.ensures.gate (λ v p q. q ∙ p)
