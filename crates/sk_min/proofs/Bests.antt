-- When a choice is the best one.
use Rattle.std.proofs.Common.{◌≡◌, inl, inr, ℕ, zero, suc, ◌<◌, ◌≤◌, ◌-◌, List, Option, Some, None, sym, subst, ◌∙◌, arith}
use Rattle.sk_base.specs.declared.bounds.Bounds.{Bounds}
use Rattle.sk_model.specs.declared.expanded.Choice.{Choice}
use Rattle.sk_model.specs.declared.expanded.Expanded.{Expanded}
use Rattle.sk_model.specs.declared.expanded.Input.{Input}
use Rattle.sk_model.specs.declared.expanded.Pair.{Pair}
use Rattle.sk_model.specs.Fill.{fill}
use Rattle.sk_model.specs.Inputs.{IsInput}
use Rattle.sk_model.specs.Meets.{IsGreatestCost}
use Rattle.sk_oblig_queries.specs.Queries.{IsWanted}
use Rattle.sk_loop.specs.Formulas.{IsAskable}
use Rattle.sk_loop_laws.specs.Honest.{Honest, inputs_of}
use Rattle.sk_loop_laws.specs.Shown.{Completes, NonePasses}
use Rattle.sk_min_laws.specs.Best.{IsBest, Meeting, NoneBelow, greatest_on}
use Rattle.sk_min.specs.Least.{IsNone}
use Rattle.sk_min.specs.Search.{IsCheapest, IsTop}
use Rattle.sk_min_laws.proofs.Greatest.{greatest_reached, greatest_within}
use Rattle.sk_loop_laws.proofs.Pairs.{honest_are_inputs}

module _ (e : Expanded) (bounds : Bounds) where
  pub meeting_of : {best : Choice} {limit : Option ℕ} → Completes e bounds limit best → Meeting e bounds best
  meeting_of c = record { range = c.range; meets = c.meets }

  -- where no input costs more than those of the pairs, their greatest cost is the greatest
  pub top_of : (pairs : List Pair) (best : Choice) (value : ℕ) → IsAskable e bounds → Honest e bounds pairs → value ≡ greatest_on e bounds best (inputs_of pairs) → Completes e bounds (Some value) best → IsCheapest e bounds pairs best → IsTop e bounds pairs best value
  top_of pairs best value askable honest is completes cheapest =
      let met = askable.met best completes.range in
      record {
        honest = honest;
        meeting = meeting_of completes;
        greatest = record {
          greatest = completes.within;
          reached = elim (greatest_reached e bounds best (IsInput e.prog bounds) (inputs_of pairs) (honest_are_inputs e bounds pairs honest)) [
            | inl z ↦ inl (is ∙ z)
            | inr r ↦ inr (r.0, (met.inputs r.0).1 r.1, r.2 ∙ sym is)
          ];
        };
        is = is;
        cheapest = cheapest;
      }

  -- no cost on an input of honest pairs is above the greatest
  pub pairs_within : (pairs : List Pair) (best : Choice) (value : ℕ) → IsAskable e bounds → Honest e bounds pairs → Meeting e bounds best → IsGreatestCost (fill e best) bounds value → greatest_on e bounds best (inputs_of pairs) ≤ value
  pairs_within pairs best value askable honest meeting greatest =
      let met = askable.met best meeting.range in
      greatest_within e bounds best (inputs_of pairs) value (λ k d h. greatest.greatest _ ((met.inputs _).1 (honest_are_inputs e bounds pairs honest k d h)))

  pub none_below : (value : ℕ) (inputs : List Input) → 0 < value → NonePasses e bounds inputs (Some (value - 1)) → NoneBelow e bounds inputs value
  none_below zero inputs some none = tt
  none_below (suc less) inputs some none =
      let same : suc less - 1 ≡ less = omega arith in
      λ choice wanted. none.passes choice (subst (λ n. IsWanted e bounds inputs (Some n) choice) (sym same) wanted)

  pub best_at_zero : (best : Choice) → Meeting e bounds best → IsGreatestCost (fill e best) bounds 0 → IsBest e bounds best 0
  best_at_zero best meeting greatest = record { meeting = meeting; costs = greatest; least = λ b m v g. omega arith }

  pub none_of : (inputs : List Input) → NonePasses e bounds inputs None → IsNone e bounds inputs
  none_of inputs none = record { passes = none.passes; meets = λ choice m. none.completes choice (record { range = m.range; meets = m.meets; within = tt }) }
