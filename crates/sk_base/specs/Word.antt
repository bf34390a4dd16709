-- Words: the whole numbers that `int` has at a width of so many bits.
use Rattle.std.specs.Prelude.{ℕ, ◌-◌, ◌*◌, ◌^◌, ◌≡◌, ℤ, pos, ◌+ℤ◌, ◌-ℤ◌, ◌*ℤ◌, ◌<ℤ◌, ◌≤ℤ◌, if◌then◌else◌, nat_lt, unsigned_abs}
use Rattle.std.specs.Int.{int_rem_euclid}

-- half of the number of words of so many bits
abbrev pub half : ℕ → ℕ
half bits = 2 ^ (bits - 1)

-- z is a word: from -2^(bits-1) to 2^(bits-1) - 1
pub record IsWord (bits : ℕ) (z : ℤ) : Type 0 where
  pub low : pos 0 ≤ℤ (z +ℤ pos (half bits))
  pub high : z <ℤ pos (half bits)

-- z and w differ by a multiple of 2^bits
abbrev pub Differ : ℕ → ℤ → ℤ → Type 0
Differ bits z w = (k : ℤ) × (z ≡ w +ℤ (k *ℤ pos (2 * half bits)))

-- the number from 0 to 2^bits - 1 that differs from z by a multiple of 2^bits: the bits of z in two's complement
abbrev pub pattern : ℕ → ℤ → ℕ
pattern bits z = unsigned_abs (int_rem_euclid z (pos (2 * half bits)))

-- the word that has these bits
abbrev pub signed : ℕ → ℕ → ℤ
signed bits m = if nat_lt m (half bits) then pos m else (pos m -ℤ pos (2 * half bits))

-- the word that differs from z by a multiple of 2^bits
unfoldable pub wrapped : ℕ → ℤ → ℤ
wrapped bits z = signed bits (pattern bits z)
