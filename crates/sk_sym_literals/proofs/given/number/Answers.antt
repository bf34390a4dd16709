use Rattle.std.proofs.Common.{◌≡◌, arith, to_z, of_z, w64}
use Rattle.std.proofs.lemmas.Int.{ints}
use Rattle.sk_base.proofs.Words.{IsWord-wrapped}
use Rattle.sk_sym_literals.proofs.given.number.Goals as goal

pub int-requires : goal.int-requires
int-requires c =
    let raw : to_z w64 (of_z w64 c.wrap_unsigned.result) ≡ c.wrap_unsigned.result = omega (arith, ints) in
    rw (raw, c.wrap_unsigned.ensures, c.int_bits-bits.ensures.width) (IsWord-wrapped _ _)
