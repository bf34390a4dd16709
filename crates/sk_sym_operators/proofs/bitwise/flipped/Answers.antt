use Rattle.std.proofs.Common.{refl, subst}
use Rattle.sk_arr.specs.Bits.{AreBits}
use Rattle.sk_sym_operators.proofs.bitwise.flipped.Goals as goal

pub negated-requires-clause-bits : goal.negated-requires-clause-bits
negated-requires-clause-bits c = subst AreBits c.as_slice.ensures (c.if-not-are_bits.ensures refl)
