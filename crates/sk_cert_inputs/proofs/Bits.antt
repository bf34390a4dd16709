-- Numbers of so many bits.
use Rattle.std.proofs.Common.{◌≡◌, ℕ, ◌^◌, ◌<◌, ◌≤◌, true, sym, arith}
use Rattle.std.specs.Prelude.{nat_lt}
use Rattle.std.proofs.Math.Pow.{pow_mono}
use Rattle.std.proofs.lemmas.Bool.{lt-ltb}

pub has_bits : (n b : ℕ) → n < 2 ^ 64 → 64 ≤ b → true ≡ nat_lt n (2 ^ b)
has_bits n b h k =
    let up : 2 ^ 64 ≤ 2 ^ b = pow_mono {i = 64} {j = b} k in
    sym (lt-ltb n (2 ^ b) (omega (arith, h, up)))
