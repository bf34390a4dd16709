-- A choice completes exactly where no input speaks against it, and then it passes each list of inputs.
use Rattle.std.proofs.Common.{ℕ, ◌≤◌, inl, inr, Option, Some, None, IfSome, All, arith}
use Rattle.std.proofs.lemmas.List.Elements.{All-weaker}
use Rattle.std.proofs.lemmas.Bool.{cases_lt}
use Rattle.sk_base.specs.declared.bounds.Bounds.{Bounds}
use Rattle.sk_prog.specs.declared.prog.Prog.{Prog}
use Rattle.sk_model.specs.declared.expanded.Input.{Input}
use Rattle.sk_model.specs.Fill.{fill}
use Rattle.sk_model.specs.Inputs.{IsInput}
use Rattle.sk_model.specs.Meets.{Breaks, Meets, cost_on}
use Rattle.sk_oblig_queries.specs.Queries.{IsOver}
use Rattle.sk_loop_laws.specs.Laws.{NoneBadCompletes, CompletesHasNoneBad, CompletesIsWanted}

-- what is not over the limit is within it
pub not_over : (limit : Option ℕ) (cost : ℕ) → (IsOver limit cost → ⊥) → IfSome limit (λ most. cost ≤ most)
not_over None cost h = tt
not_over (Some most) cost h = elim (cases_lt most cost) [ inl over ↦ absurd (h over) | inr within ↦ within ]

pub meets_each : (prog : Prog) (bounds : Bounds) → ((input : Input) → IsInput prog bounds input → Breaks prog bounds input → ⊥) → Meets prog bounds
unfolding Meets
meets_each prog bounds h = h

pub meets_at : (prog : Prog) (bounds : Bounds) → Meets prog bounds → (input : Input) → IsInput prog bounds input → Breaks prog bounds input → ⊥
unfolding Meets
meets_at prog bounds h = h

pub none_bad_completes : NoneBadCompletes
none_bad_completes e bounds limit choice range met none = record {
  range = range;
  meets = meets_each (fill e choice) bounds (λ input is breaks. none input (record { is_input = (met.inputs input).0 is; bad = inl breaks }));
  within = within limit (λ input is over. none input (record { is_input = (met.inputs input).0 is; bad = inr over }));
}
  where
    within : (limit : Option ℕ) → ((input : Input) → IsInput (fill e choice) bounds input → IsOver limit (cost_on (fill e choice) bounds input) → ⊥) → IfSome limit (λ most. (input : Input) → IsInput (fill e choice) bounds input → cost_on (fill e choice) bounds input ≤ most)
    within None h = tt
    within (Some most) h = λ input is. not_over (Some most) (cost_on (fill e choice) bounds input) (h input is)

pub completes_has_none_bad : CompletesHasNoneBad
completes_has_none_bad e bounds limit choice met c input bad =
    let is : IsInput (fill e choice) bounds input = (met.inputs input).1 bad.is_input in
    elim bad.bad [
      | inl breaks ↦ meets_at (fill e choice) bounds c.meets input is breaks
      | inr over ↦ costs limit c.within is over
    ]
  where
    costs : (limit : Option ℕ) → IfSome limit (λ most. (input : Input) → IsInput (fill e choice) bounds input → cost_on (fill e choice) bounds input ≤ most) → IsInput (fill e choice) bounds input → IsOver limit (cost_on (fill e choice) bounds input) → ⊥
    costs None within is over = over
    costs (Some most) within is over = let low = within input is in omega (arith, low, over)

pub completes_is_wanted : CompletesIsWanted
completes_is_wanted e bounds limit choice inputs met c all = record {
  range = c.range;
  passes = record {
    unbroken = All-weaker (IsInput e.prog bounds) (λ i. Breaks (fill e choice) bounds i → ⊥) (λ i is. meets_at (fill e choice) bounds c.meets i ((met.inputs i).1 is)) inputs all;
    within = costs limit c.within;
  };
}
  where
    costs : (limit : Option ℕ) → IfSome limit (λ most. (input : Input) → IsInput (fill e choice) bounds input → cost_on (fill e choice) bounds input ≤ most) → IfSome limit (λ most. All (λ i. cost_on (fill e choice) bounds i ≤ most) inputs)
    costs None within = tt
    costs (Some most) within = All-weaker (IsInput e.prog bounds) (λ i. cost_on (fill e choice) bounds i ≤ most) (λ i is. within i ((met.inputs i).1 is)) inputs all
