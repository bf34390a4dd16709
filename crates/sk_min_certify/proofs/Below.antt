-- Proofs that no choice passes some inputs.
use Rattle.std.proofs.Common.{◌≡◌, ℕ, ◌-◌, ◌<◌, List, Option, Some, None, refl, sym, subst, ap}
use Rattle.sk_base.specs.declared.bounds.Bounds.{Bounds}
use Rattle.sk_model.specs.declared.expanded.Choice.{Choice}
use Rattle.sk_model.specs.declared.expanded.Expanded.{Expanded}
use Rattle.sk_model.specs.declared.expanded.Input.{Input}
use Rattle.sk_oblig_queries.specs.declared.query.Query.{Query}
use Rattle.sk_oblig_queries.specs.declared.query.Query.TheVariants as query
use Rattle.sk_oblig_queries.specs.Queries.{IsWanted}
use Rattle.sk_oblig_queries.specs.Said.{choice_said}
use Rattle.sk_cert.specs.declared.certificate.Proof.{Proof}
use Rattle.sk_min_certify.specs.declared.stop.Stop.{Stop}
use Rattle.sk_min_certify.specs.Stops.{IsStop}
use Rattle.sk_min_certify.proofs.Refuting.{stop_wider}
use Rattle.sk_min_certify.specs.Certified.{IsLowerLimit}
use Rattle.sk_min_certify.specs.Proves.{IsVain, NoneIsWanted, Proves}

pub inputs_vain : (e : Expanded) (bounds : Bounds) (copies inputs : List Input) (limit : Option ℕ) → copies ≡ inputs → NoneIsWanted e bounds inputs limit → IsVain e bounds (query.Wanted copies limit)
inputs_vain e bounds copies inputs limit is none bits wanted =
    let choice = choice_said e.sites bits in
    none choice (subst (λ (xs : List Input). IsWanted e bounds xs limit choice) is wanted)

pub proves_below : (e : Expanded) (bounds : Bounds) (copies inputs : List Input) (limit : Option ℕ) (p : Proof) → copies ≡ inputs → Proves e bounds (query.Wanted copies limit) p → Proves e bounds (query.Wanted inputs limit) p
proves_below e bounds copies inputs limit p is h = subst (λ (xs : List Input). Proves e bounds (query.Wanted xs limit) p) is h

pub same_below : (copies inputs : List Input) (limit : Option ℕ) → copies ≡ inputs → (q : Query) → q ≡ query.Wanted copies limit → q ≡ query.Wanted inputs limit
same_below copies inputs limit is q same = subst (λ (xs : List Input). q ≡ query.Wanted xs limit) is same

pub limit_free : (choice : Option Choice) (value : ℕ) → choice ≡ None → IsLowerLimit choice value None
limit_free choice value is = subst (λ (c : Option Choice). IsLowerLimit c value None) (sym is) refl

pub limit_less : (choice : Option Choice) (a : Choice) (value most : ℕ) → choice ≡ Some a → 0 < value → most ≡ value - 1 → IsLowerLimit choice value (Some most)
limit_less choice a value most is some less = subst (λ (c : Option Choice). IsLowerLimit c value (Some most)) (sym is) (some, ap Some less)

pub stop_within : (e : Expanded) (bounds : Bounds) (copies inputs : List Input) (limit : Option ℕ) (count : ℕ) (s : Stop) → copies ≡ inputs → IsStop e bounds (λ q. q ≡ query.Wanted copies limit) count s → IsStop e bounds (λ q. q ≡ query.Wanted inputs limit) count s
stop_within e bounds copies inputs limit count s is = stop_wider e bounds (λ q. q ≡ query.Wanted copies limit) (λ q. q ≡ query.Wanted inputs limit) count s (same_below copies inputs limit is)

pub ruleset within = (inputs_vain, proves_below, stop_within)
