-- The sign and the absolute value of a number.
use Rattle.std.specs.Prelude.{◌≡◌, ◌≤◌, ℕ, Bool, true, ℤ, pos, neg_ℤ, if◌then◌else◌}

-- z is the number with this sign and this absolute value
pub record HasSign (z : ℤ) (negative : Bool) (size : ℕ) : Type 0 where
  pub sign : z ≡ (if negative then neg_ℤ (pos size) else pos size)
  pub some : negative ≡ true → 1 ≤ size
