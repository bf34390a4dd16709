-- Powers of 2 that are at least a size, and numbers that are made bit by bit.
use Rattle.std.proofs.Common.{◌≡◌, ℕ, zero, suc, ◌+◌, ◌-◌, ◌*◌, ◌^◌, ◌<◌, ◌≤◌, Bool, true, false, refl, arith}
use Rattle.std.specs.Prelude.{nat_le, if◌then◌else◌}
use Rattle.std.proofs.Math.Pow.{pow_mono}
use Rattle.std.proofs.lemmas.Bool.{le-leb, lt-leb}
use Rattle.sk_gates.proofs.WordLaws.{power_more}
use Rattle.sk_oblig_queries.specs.Numbers.{first_power, bits_of_size}

-- a number of 64 bits has room for each of its bits
pub room : (p : ℕ) → p < 64 → 2 * 2 ^ p ≤ 18446744073709551616
room p h =
    let up : 2 ^ (p + 1) ≤ 2 ^ 64 = pow_mono {i = p + 1} {j = 64} (omega arith) in
    omega (arith, up, power_more p)

pub power_start : (s : ℕ) → first_power s 64 0 ≡ bits_of_size s
unfolding bits_of_size
power_start s = refl

pub power_here : (s b : ℕ) → b < 64 → s ≤ 2 ^ b → first_power s (64 - b) b ≡ b
power_here s b h k =
    let one : 64 - b ≡ suc (64 - (b + 1)) = omega arith in
    rw (one, le-leb s (2 ^ b) k) refl

pub power_on : (s b : ℕ) → b < 64 → 2 ^ b < s → first_power s (64 - b) b ≡ first_power s (64 - (b + 1)) (b + 1)
power_on s b h k =
    let one : 64 - b ≡ suc (64 - (b + 1)) = omega arith in
    rw (one, lt-leb s (2 ^ b) k) refl

pub power_end : (s b : ℕ) → 64 ≤ b → b ≤ 64 → first_power s (64 - b) b ≡ 64
power_end s b h k =
    let e : b ≡ 64 = omega arith in
    rw e refl

pub ruleset powers = (power_start, power_here, power_on, power_end)

power_most : (s k b : ℕ) → first_power s k b ≤ b + k
power_most s zero b = omega arith
power_most s (suc k) b = by (nat_le s (2 ^ b)) (power_most s k (b + 1))
  where
    by : (c : Bool) → first_power s k (b + 1) ≤ b + 1 + k → (if c then b else first_power s k (b + 1)) ≤ b + suc k
    by true h = omega arith
    by false h = omega (arith, h)

pub bits_most : (s : ℕ) → bits_of_size s ≤ 64
unfolding bits_of_size
bits_most s = power_most s 64 0
