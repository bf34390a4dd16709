use Rattle.std.proofs.Common.{◌≡◌, ◌*◌, ◌^◌, ◌%◌, ◌∙◌, arith, ap, pos, to_z, of_z, w64, unsigned_abs}
use Rattle.std.proofs.lemmas.Int.{ints}
use Rattle.std.specs.Int.{int_rem_euclid}
use Rattle.sk_base.specs.Word.{half}
use Rattle.sk_base.proofs.Words.{half_le, pattern_below}
use Rattle.sk_cnf.proofs.SignedLaws.{doubled, rem_is}
use Rattle.sk_cnf.proofs.signed.pattern_of.Goals as goal

pub returns : goal.returns
returns c =
    let w = c.args.width in
    let d = doubled w (omega (arith, c.requires.low)) in
    let small = half_le w c.requires.high in
    let e : 1 * 2 ^ w % 18446744073709551616 ≡ 2 * half w = omega (arith, d, small) in
    let n : to_z w64 (1 * 2 ^ w % 18446744073709551616) ≡ pos (2 * half w) = omega (arith, ints, e, small) in
    let v : to_z w64 (of_z w64 c.args.value) ≡ c.args.value = omega (arith, ints, c.ranges.value) in
    let r : c.rem_euclid.result ≡ int_rem_euclid c.args.value (pos (2 * half w)) = c.rem_euclid.ensures.value ∙ (λ i. int_rem_euclid (v i) (n i)) in
    let p = rem_is c.args.value (2 * half w) in
    let b = pattern_below w c.args.value in
    let back : to_z w64 (of_z w64 c.rem_euclid.result) ≡ c.rem_euclid.result = omega (arith, ints, r, p, b, small) in
    ap unsigned_abs (back ∙ r)
