-- A division of numbers of bits, step by step from the top.
use Rattle.std.specs.Prelude.{◌≡◌, ℕ, ◌+◌, ◌-◌, ◌*◌, ◌<◌, ◌≤◌, Bool, false, List, length, drop, slice_index_or, nat_eq}
use Rattle.sk_gates.specs.declared.bit.Bit.{Bit}
use Rattle.sk_gates.specs.declared.bit.Bit.TheVariants.{Constant}
use Rattle.sk_gates.specs.Bits.{bit_true}
use Rattle.sk_gates.specs.Words.{bits_word}

-- bit j of tops says whether the j highest bits of a word are all false
abbrev pub AreTops : (ℕ → Bool) → List Bit → List Bit → Type 0
AreTops v bits tops =
    (j : ℕ) → j ≤ length bits → bit_true v (slice_index_or tops j (Constant false)) ≡ nat_eq (bits_word v (drop (length bits - j) bits)) 0

-- number is divisor times quotient and what is left, which is below the divisor
pub record IsDivided (number divisor quotient left : ℕ) : Type 0 where
  pub whole : number ≡ divisor * quotient + left
  pub below : left < divisor
