-- The first of several bytes, however they are grouped.
use Rattle.std.proofs.Common.{◌≡◌, ℕ, min, Option, Some, None, refl, ap, arith}
use Rattle.sk_adt.specs.Faults.{sooner}

pub sooner_none : (a : Option ℕ) → sooner a None ≡ a
sooner_none None = refl
sooner_none (Some a) = refl

pub sooner_assoc : (a b c : Option ℕ) → sooner (sooner a b) c ≡ sooner a (sooner b c)
sooner_assoc None b c = refl
sooner_assoc (Some a) None c = refl
sooner_assoc (Some a) (Some b) None = refl
sooner_assoc (Some a) (Some b) (Some c) = let e : min (min a b) c ≡ min a (min b c) = omega arith in ap Some e
