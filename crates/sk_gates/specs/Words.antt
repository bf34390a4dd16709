-- Lists of truth values as numbers, the least bit first.
use Rattle.std.specs.Prelude.{ℕ, ◌+◌, ◌*◌, ◌/◌, ◌%◌, Bool, List, [], ◌∷◌, map, if◌then◌else◌, nat_lt, int_lt, nat_eq}
use Rattle.sk_base.specs.Word.{signed}
use Rattle.sk_clause.specs.declared.lit.Lit.{Lit}
use Rattle.sk_clause.specs.Meaning.{lit_true}
use Rattle.sk_gates.specs.declared.bit.Bit.{Bit}
use Rattle.sk_gates.specs.Bits.{bit_true}

-- 1 or 0
abbrev pub digit : Bool → ℕ
digit b = if b then 1 else 0

-- the number with these binary digits
unfoldable pub number : List Bool → ℕ
number [] = 0
number (b ∷ bs) = digit b + 2 * number bs

-- the number that literals stand for where the variables have these values
abbrev pub word : (ℕ → Bool) → List Lit → ℕ
word v lits = number (map (lit_true v) lits)

-- the same of bits
abbrev pub bits_word : (ℕ → Bool) → List Bit → ℕ
bits_word v bits = number (map (bit_true v) bits)

-- Whether the first of two numbers of so many bits is below the second, each read in two's complement where is_signed.
abbrev pub is_less : Bool → ℕ → ℕ → ℕ → Bool
is_less is_signed bits m n = if is_signed then int_lt (signed bits m) (signed bits n) else nat_lt m n

-- the whole part of a quotient, and 0 where the divisor is 0
abbrev pub quotient_of : ℕ → ℕ → ℕ
quotient_of m n = if nat_eq n 0 then 0 else m / n

-- what a division leaves, and 0 where the divisor is 0
abbrev pub remainder_of : ℕ → ℕ → ℕ
remainder_of m n = if nat_eq n 0 then 0 else m % n
