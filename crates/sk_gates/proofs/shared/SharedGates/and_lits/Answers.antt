use Rattle.sk_gates.specs.declared.key.Gate.TheVariants.{And}
use Rattle.sk_gates.proofs.SharingLaws.{Stands-made, Builds-known}
use Rattle.sk_gates.proofs.shared.SharedGates.and_lits.Goals as goal

pub note-requires : goal.note-requires
note-requires c =
    rw (c.operand_of.ensures, c.operand_of-2.ensures)
    (Stands-made (And _ _) c.in_ok-bit-in-None.bit c.in_ok-bit-in-None.ensures.gate c.in_ok-bit-in-None.ensures.within)

pub returns-in-Some-clause-gate : goal.returns-in-Some-clause-gate
returns-in-Some-clause-gate c =
    let stands = rw (c.operand_of.ensures, c.operand_of-2.ensures) at c.in-Some.ensures in
    Builds-known _ _ c.in-Some.bit stands
