-- What options are that are there.
use Rattle.std.proofs.Common.{◌≡◌, ◌∷◌, List, Option, Some, None, Bool, true, false, refl}
use Rattle.std.specs.Prelude.{option_map, if◌then◌else◌}
use Rattle.std.proofs.lemmas.Option.{none-some, same_Some}
use Rattle.sk_cert_inputs.specs.Reading.{both}

pub both_some : {A : Type 0} (o : Option A) (os : Option (List A)) (vs : List A) → both o os ≡ Some vs → (v : A) × (ws : List A) × (o ≡ Some v) × (os ≡ Some ws) × (v ∷ ws ≡ vs)
both_some None os vs h = absurd (none-some vs h)
both_some (Some v) None vs h = absurd (none-some vs h)
both_some (Some v) (Some ws) vs h = (v, ws, refl, refl, same_Some (v ∷ ws) vs h)

pub map_some : {A B : Type 0} (f : A → B) (o : Option A) (y : B) → option_map f o ≡ Some y → (x : A) × (o ≡ Some x) × (f x ≡ y)
map_some f None y h = absurd (none-some y h)
map_some f (Some x) y h = (x, refl, same_Some (f x) y h)

pub when_some : {A : Type 0} (b : Bool) (o : Option A) (y : A) → (if b then o else None) ≡ Some y → (b ≡ true) × (o ≡ Some y)
when_some true o y h = (refl, h)
when_some false o y h = absurd (none-some y h)
