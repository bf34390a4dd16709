-- What is promised by a certificate of which each part holds.
use Rattle.std.specs.Prelude.{ℕ, Option, Some, None}
use Rattle.sk_base.specs.declared.bounds.Bounds.{Bounds}
use Rattle.sk_model.specs.declared.expanded.Choice.{Choice}
use Rattle.sk_model.specs.declared.expanded.Expanded.{Expanded}
use Rattle.sk_cert.specs.declared.certificate.Certificate.{Certificate}
use Rattle.sk_min_laws.specs.Best.{IsBest, Meeting}

-- the choice is the best one, and the value its greatest cost; without a choice none meets the obligations
abbrev pub is_right : Expanded → Bounds → Option Choice → ℕ → Type 0
is_right e bounds None value = (b : Choice) → Meeting e bounds b → ⊥
is_right e bounds (Some a) value = IsBest e bounds a value

abbrev pub IsRight : Expanded → Bounds → Certificate → Type 0
IsRight e bounds c = is_right e bounds c.choice c.value
