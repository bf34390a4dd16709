-- The queries of the proofs, as those of a certificate.
use Rattle.std.proofs.Common.{ℕ, List, Option, Some, None, All, sym, subst, ap}
use Rattle.std.specs.Prelude.{IfSome}
use Rattle.sk_base.specs.declared.bounds.Bounds.{Bounds}
use Rattle.sk_model.specs.declared.expanded.Choice.{Choice}
use Rattle.sk_model.specs.declared.expanded.Expanded.{Expanded}
use Rattle.sk_model.specs.declared.expanded.Input.{Input}
use Rattle.sk_model.specs.Inputs.{IsInput}
use Rattle.sk_oblig_queries.specs.declared.query.Query.{Query}
use Rattle.sk_oblig_queries.specs.declared.query.Query.TheVariants as query
use Rattle.sk_oblig_queries.specs.Queries.{IsWanted}
use Rattle.sk_oblig.specs.Formulas.{IsAskable}
use Rattle.sk_loop_laws.specs.Shown.{Completes}
use Rattle.sk_loop_laws.proofs.Completing.{completes_is_wanted}
use Rattle.sk_min_certify.specs.declared.stop.Stop.{Stop}
use Rattle.sk_min_certify.specs.Certified.{IsPut, IsUpperQueryOf}
use Rattle.sk_min_certify.specs.Stops.{IsStop}
use Rattle.sk_min_certify.proofs.Refuting.{stop_wider}

module _ (e : Expanded) (bounds : Bounds) (value : ℕ) (inputs : List Input) where
  upper_put : (choice : Option Choice) → IsAskable e bounds → IfSome choice (Completes e bounds (Some value)) → All (IsInput e.prog bounds) inputs → (q : Query) → IsUpperQueryOf e choice value q → IsPut e bounds choice value inputs q
  upper_put None askable c all q h = absurd h
  upper_put (Some a) askable c all (query.Bad b limit) h = absurd h
  upper_put (Some a) askable c all (query.Wanted listed limit) h = absurd h
  upper_put (Some a) askable c all (query.BadAt b o limit) h =
      let wanted : IsWanted e bounds inputs (Some value) a = completes_is_wanted e bounds (Some value) a inputs (askable.met a c.range) c all in (
        ap Some (sym h.0),
        h.1,
        h.2,
        subst (λ (x : Choice). IsWanted e bounds inputs (Some limit) x) (sym h.0) (subst (λ (l : ℕ). IsWanted e bounds inputs (Some l) a) (sym h.2) wanted),
      )

  pub stop_above : (choice : Option Choice) (count : ℕ) (s : Stop) → IsAskable e bounds → IfSome choice (Completes e bounds (Some value)) → All (IsInput e.prog bounds) inputs → IsStop e bounds (IsUpperQueryOf e choice value) count s → IsStop e bounds (IsPut e bounds choice value inputs) count s
  stop_above choice count s askable c all = stop_wider e bounds (IsUpperQueryOf e choice value) (IsPut e bounds choice value inputs) count s (upper_put choice askable c all)
