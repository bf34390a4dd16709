-- A choice is in range exactly where it has a value for each site and none is out.
use Rattle.std.proofs.Common.{◌≡◌, ℕ, suc, ◌+◌, ◌<◌, true, false, List, [], ◌∷◌, length, Some, None, refl, ap, ◌∙◌, arith}
use Rattle.std.specs.Prelude.{nat_lt, if◌then◌else◌}
use Rattle.std.proofs.lemmas.Bool.{lt-ltb, ltb-true}
use Rattle.sk_model.specs.declared.expanded.Site.{Site}
use Rattle.sk_model.specs.Fill.{Fits}
use Rattle.sk_holes.specs.Range.{first_out}

-- None is out, so each value is below its site's size.
pub fits_where_none_is_out : (i : ℕ) (ss : List Site) (vs : List ℕ) → length vs ≡ length ss → first_out i ss vs ≡ None → Fits ss vs
fits_where_none_is_out i [] [] e h = tt
fits_where_none_is_out i [] (v ∷ vs) e h = absurd (omega (arith, e))
fits_where_none_is_out i (s ∷ ss) [] e h = absurd (omega (arith, e))
fits_where_none_is_out i (s ∷ ss) (v ∷ vs) e h =
    elim (nat_lt v s.size) as (λ b. nat_lt v s.size ≡ b → (if b then first_out (i + 1) ss vs else Some i) ≡ None → (v < s.size) × Fits ss vs) [
      | true ↦ λ below none. (ltb-true v s.size below, fits_where_none_is_out (i + 1) ss vs (omega (arith, e)) none)
      | false ↦ λ above none. cc
    ] refl h

-- The values of a choice in range are as many as the sites, and none is out.
pub none_is_out : (i : ℕ) (ss : List Site) (vs : List ℕ) → Fits ss vs → (length vs ≡ length ss) × (first_out i ss vs ≡ None)
none_is_out i [] [] h = (refl, refl)
none_is_out i [] (v ∷ vs) h = absurd h
none_is_out i (s ∷ ss) [] h = absurd h
none_is_out i (s ∷ ss) (v ∷ vs) h =
    let rest = none_is_out (i + 1) ss vs h.1 in
    (ap suc rest.0, ap (λ b. if b then first_out (i + 1) ss vs else Some i) (lt-ltb v s.size h.0) ∙ rest.1)
