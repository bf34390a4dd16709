-- Powers of 2.
use Rattle.std.proofs.Common.{ℕ, ◌+◌, ◌*◌, ◌^◌, ◌<◌, ◌≤◌, arith}
use Rattle.std.proofs.Math.Pow.{pow_mono}

-- a number of 32 bits has room for each of its bits
pub room : (p : ℕ) → p < 32 → 2 ^ p < 4294967296
room p h =
    let up : 2 ^ p ≤ 2 ^ 31 = pow_mono {i = p} {j = 31} (omega arith) in
    omega (arith, up)

pub positive : (p : ℕ) → 1 ≤ 2 ^ p
positive p = pow_mono {i = 0} {j = p} (omega arith)
