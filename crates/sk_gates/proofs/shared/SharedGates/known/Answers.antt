use Rattle.std.proofs.Common.{◌∙◌}
use Rattle.sk_gates.proofs.SharingLaws.{Stands-known}
use Rattle.sk_gates.proofs.shared.SharedGates.known.Goals as goal

pub returns : goal.returns
returns c = rw (← c.self.view_is) (Stands-known _ _ c.args.gate c.copied.result c.self.invariant (c.copied.ensures ∙ c.get.ensures.value))
