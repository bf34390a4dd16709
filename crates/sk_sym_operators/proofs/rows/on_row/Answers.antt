use Rattle.std.proofs.Common.{refl, subst}
use Rattle.sk_arr.specs.Bits.{AreBits}
use Rattle.sk_sym_operators.proofs.rows.on_row.Goals as goal

pub on_bits_and-requires-clause-bits : goal.on_bits_and-requires-clause-bits
on_bits_and-requires-clause-bits c = subst AreBits c.as_slice.ensures (c.if-not-are_bits.ensures refl)
