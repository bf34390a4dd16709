-- A place, counted from the beginning.
use Rattle.std.proofs.Common.{◌≡◌, ℕ, Option, Some, None, refl, ap, arith}
use Rattle.std.specs.Prelude.{◌+◌}
use Rattle.sk_types_names.proofs.Places.{past}

pub past_none : (o : Option ℕ) → past 0 o ≡ o
past_none None = refl
past_none (Some j) = let e : 0 + j ≡ j = omega arith in ap Some e
