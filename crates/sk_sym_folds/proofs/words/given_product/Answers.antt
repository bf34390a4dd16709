use Rattle.std.proofs.Common.{◌≡◌, arith, to_z, of_z, w64}
use Rattle.std.proofs.lemmas.Int.{ints}
use Rattle.sk_base.proofs.Words.{IsWord-wrapped}
use Rattle.sk_sym_folds.proofs.words.given_product.Goals as goal

pub word-requires : goal.word-requires
word-requires c =
    let raw : to_z w64 (of_z w64 c.product.result) ≡ c.product.result = omega (arith, ints) in
    rw (raw, c.product.ensures, c.int_bits-bits.ensures.width) (IsWord-wrapped _ _)
