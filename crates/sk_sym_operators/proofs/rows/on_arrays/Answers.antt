use Rattle.std.proofs.Common.{length, refl, sym, subst, ap, ◌∙◌}
use Rattle.sk_arr.specs.Bits.{AreBits}
use Rattle.sk_sym_operators.proofs.rows.on_arrays.Goals as goal

pub on_even-requires-clause-y_bits : goal.on_even-requires-clause-y_bits
on_even-requires-clause-y_bits c = subst AreBits c.as_slice-second.ensures (c.if-not-are_even.ensures.bits refl)

pub on_even-requires-clause-long : goal.on_even-requires-clause-long
on_even-requires-clause-long c = ap length (sym c.as_slice-first.ensures) ∙ c.if-not-are_even.ensures.long refl ∙ ap length c.as_slice-second.ensures
