use Rattle.std.proofs.Common.{◌≡◌, arith, to_z, of_z, w64}
use Rattle.std.proofs.lemmas.Int.{ints}
use Rattle.sk_simplify.proofs.RuleLemmas.{IsWord-quotient}
use Rattle.sk_sym_folds.proofs.words.given_quotient.Goals as goal

pub word-requires : goal.word-requires
word-requires c =
    let raw : to_z w64 (of_z w64 c.quotient.result) ≡ c.quotient.result = omega (arith, ints) in
    rw (raw, c.quotient.ensures, c.int_bits-bits.ensures.width) (IsWord-quotient c.args.dag.now.bits (to_z w64 (of_z w64 c.args.x)) (to_z w64 (of_z w64 c.args.y)))
