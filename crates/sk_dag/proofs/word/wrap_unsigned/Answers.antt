use Rattle.std.proofs.Common.{◌≡◌, ◌*◌, ◌^◌, ◌%◌, ◌<◌, arith, ◌∙◌, pos, to_z, of_z, w64}
use Rattle.std.proofs.lemmas.Int.{ints}
use Rattle.sk_base.specs.Word.{half}
use Rattle.sk_base.proofs.Words.{half_pos, half_le}
use Rattle.sk_dag.proofs.WordLemmas.{power_half, wrapped-rem}
use Rattle.sk_dag.proofs.word.wrap_unsigned.Goals as goal

pub returns : goal.returns
returns c =
    let w = c.args.bits in
    let n = c.args.number in
    let p = half_pos w in
    let b = half_le w c.requires.bits_high in
    let h = power_half w (omega arith) in
    let m : 1 * 2 ^ w % 18446744073709551616 ≡ 2 * half w = omega arith in
    let below : n % (2 * half w) < 2 * half w = omega arith in
    let e : to_z w64 (n % (2 * half w)) ≡ pos (n % (2 * half w)) = omega (arith, ints) in
    let made = rw (m, e, wrapped-rem w n) at c.in_width.ensures in
    let same : to_z w64 (of_z w64 c.in_width.result) ≡ c.in_width.result = omega (arith, ints) in
    same ∙ made
