use Rattle.sk_gates.proofs.SharingLaws.{AreMade-noted}
use Rattle.sk_gates.proofs.shared.SharedGates.note.Goals as goal

pub invariant_of-self-2 : goal.invariant_of-self-2
invariant_of-self-2 c =
    let stands = rw (← c.self.view_is) at c.requires in
    rw c.in_ok-insert.ensures.entries (AreMade-noted _ _ c.args.gate c.args.bit stands c.self.invariant)
