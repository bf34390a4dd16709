-- A bound of many bits is no bound of a number of 32.
use Rattle.std.proofs.Common.{◌≡◌, ℕ, ◌-◌, ◌<◌, ◌≤◌, ◌^◌, arith}
use Rattle.std.specs.Prelude.{min}
use Rattle.std.proofs.Math.Pow.{pow_mono}

pub capped_wide : (n bits : ℕ) → n < 4294967296 → 32 ≤ bits → min (2 ^ bits - 1) n ≡ n
capped_wide n bits small h =
    let most : 2 ^ 32 ≤ 2 ^ bits = pow_mono {i = 32} {j = bits} h in
    omega arith

pub ruleset wide = (capped_wide)
