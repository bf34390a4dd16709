use Rattle.std.proofs.Common.{◌≡◌, arith, to_z, of_z, w64}
use Rattle.std.proofs.lemmas.Int.{ints}
use Rattle.sk_simplify.proofs.RuleLemmas.{IsWord-remainder}
use Rattle.sk_sym_folds.proofs.words.given_remainder.Goals as goal

pub word-requires : goal.word-requires
word-requires c =
    let raw : to_z w64 (of_z w64 c.remainder.result) ≡ c.remainder.result = omega (arith, ints) in
    rw (raw, c.remainder.ensures, c.int_bits-bits.ensures.width) (IsWord-remainder c.args.dag.now.bits (to_z w64 (of_z w64 c.args.x)) (to_z w64 (of_z w64 c.args.y)))
