-- Arithmetic of words, and bits of numbers.
use Rattle.std.specs.Prelude.{ℕ, ◌/◌, ◌%◌, ◌^◌, ℤ, pos, neg_ℤ, ◌<ℤ◌, ◌≤ℤ◌, ◌==◌, Bool, int_div, int_rem, if◌then◌else◌}
use Rattle.std.specs.Ordering.{int_eq}
use Rattle.sk_base.specs.Word.{wrapped}

-- z fits 32 bits, as each word does
pub record IsMachineWord (z : ℤ) : Type 0 where
  pub low : neg_ℤ (pos (2 ^ 31)) ≤ℤ z
  pub high : z <ℤ pos (2 ^ 31)

-- division toward zero, wrapped to w bits; 0 where the divisor is 0
abbrev pub quotient : ℕ → ℤ → ℤ → ℤ
quotient w x y = if int_eq y (pos 0) then pos 0 else wrapped w (int_div x y)

-- what division toward zero leaves, with the sign of x, wrapped to w bits; 0 where the divisor is 0
abbrev pub remainder : ℕ → ℤ → ℤ → ℤ
remainder w x y = if int_eq y (pos 0) then pos 0 else wrapped w (int_rem x y)

-- bit k of n
abbrev pub bit_of : ℕ → ℕ → Bool
bit_of n k = (n / 2 ^ k) % 2 == 1
