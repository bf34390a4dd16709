-- Honest pairs: their inputs are of the program and distinct, and those of rounds keep them honest.
use Rattle.std.proofs.Common.{◌≡◌, ℕ, ◌<◌, ◌≤◌, ◌⊎◌, inl, inr, List, Option, Some, None, IfSome, All, length, get_or, take, slice_get, sym, ap, subst, ◌∙◌, arith}
use Rattle.std.proofs.lemmas.List.Elements.{All-map, All-weaker}
use Rattle.std.proofs.lemmas.Option.{slice_get-get_or}
use Rattle.std.proofs.lemmas.Bool.{cases_lt}
use Rattle.sk_base.specs.declared.bounds.Bounds.{Bounds}
use Rattle.sk_model.specs.declared.expanded.Choice.{Choice}
use Rattle.sk_model.specs.declared.expanded.Expanded.{Expanded}
use Rattle.sk_model.specs.declared.expanded.Input.{Input}
use Rattle.sk_model.specs.declared.expanded.Pair.{Pair}
use Rattle.sk_model.specs.Fill.{fill}
use Rattle.sk_model.specs.Inputs.{IsInput}
use Rattle.sk_model.specs.Meets.{Breaks, cost_on}
use Rattle.sk_oblig_queries.specs.Queries.{IsOver}
use Rattle.sk_loop_laws.specs.Honest.{inputs_of, CostsMore, IsHonest, Honest, IsRound}
use Rattle.sk_loop_laws.specs.Laws.{GrownIsHonest, InputsAreDistinct, HonestAreInputs}
use Rattle.sk_loop_laws.proofs.Lists.{all_at, get_front, take_front, pair_at, earlier_at}

pub honest_are_inputs : HonestAreInputs
honest_are_inputs e bounds pairs h = All-map (IsInput e.prog bounds) (λ (p : Pair). p.input) pairs (λ k d within. (h.each k (get_or pairs k d) (slice_get-get_or pairs k d within)).is_input)

-- what costs more than the limit costs more than what is within it
costlier : (e : Expanded) (bounds : Bounds) (choice : Choice) (earlier : List Input) (input : Input) (limit : Option ℕ) → IfSome limit (λ most. All (λ i. cost_on (fill e choice) bounds i ≤ most) earlier) → IsOver limit (cost_on (fill e choice) bounds input) → CostsMore e bounds choice earlier input
costlier e bounds choice earlier input None within over = absurd over
costlier e bounds choice earlier input (Some most) within over = record {
  more = omega (arith, over);
  each = All-weaker (λ i. cost_on (fill e choice) bounds i ≤ most) (λ i. cost_on (fill e choice) bounds i < cost_on (fill e choice) bounds input) (λ i low. omega (arith, low, over)) earlier within;
}

-- the pair of a round is honest beside the inputs before it
pub round_is_honest : (e : Expanded) (bounds : Bounds) (limit : Option ℕ) (earlier : List Input) (pair : Pair) → IsRound e bounds limit earlier pair → IsHonest e bounds earlier pair
round_is_honest e bounds limit earlier pair r = record {
  range = r.wanted.range;
  is_input = r.bad.is_input;
  unbroken = r.wanted.passes.unbroken;
  speaks = elim r.bad.bad [ inl breaks ↦ inl breaks | inr over ↦ inr (costlier e bounds pair.choice earlier pair.input limit r.wanted.passes.within over) ];
}

pub grown_is_honest : GrownIsHonest
grown_is_honest e bounds limit old new h g = record { each = λ i p at. by i p at (cases_lt i (length old)) }
  where
    by : (i : ℕ) (p : Pair) → slice_get new i ≡ Some p → (i < length old) ⊎ (length old ≤ i) → IsHonest e bounds (inputs_of (take i new)) p
    by i p at (inl less) =
        let there : slice_get old i ≡ Some p = sym (get_front old g.added i less) ∙ ap (λ ps. slice_get ps i) (sym g.behind) ∙ at in
        let same : take i old ≡ take i new = sym (take_front old g.added i less) ∙ ap (take i) (sym g.behind) in
        subst (λ ps. IsHonest e bounds (inputs_of ps) p) same (h.each i p there)
    by i p at (inr more) = round_is_honest e bounds limit (inputs_of (take i new)) p (g.rounds i p more at)

-- no input stands at an earlier place too
not_earlier : (e : Expanded) (bounds : Bounds) (pairs : List Pair) → Honest e bounds pairs → (i j : ℕ) (x : Input) → i < j → slice_get (inputs_of pairs) i ≡ Some x → slice_get (inputs_of pairs) j ≡ Some x → ⊥
not_earlier e bounds pairs h i j x less first later =
    let q = pair_at pairs j x later in
    let p = q.0 in
    let own : IsHonest e bounds (inputs_of (take j pairs)) p = h.each j p q.1 in
    let before : slice_get (inputs_of (take j pairs)) i ≡ Some p.input = subst (λ y. slice_get (inputs_of (take j pairs)) i ≡ Some y) (sym q.2) (earlier_at pairs i j x less first) in
    elim own.speaks [
      | inl breaks ↦ all_at (λ i. Breaks (fill e p.choice) bounds i → ⊥) (inputs_of (take j pairs)) i p.input own.unbroken before breaks
      | inr costs ↦
          let less = all_at (λ i. cost_on (fill e p.choice) bounds i < cost_on (fill e p.choice) bounds p.input) (inputs_of (take j pairs)) i p.input costs.each before in
          omega (arith, less)
    ]

pub inputs_are_distinct : InputsAreDistinct
inputs_are_distinct e bounds pairs h i j x first later = elim (cases_lt i j) [
  | inl less ↦ absurd (not_earlier e bounds pairs h i j x less first later)
  | inr more ↦ elim (cases_lt j i) [
    | inl less ↦ absurd (not_earlier e bounds pairs h j i x less later first)
    | inr same ↦ omega (arith, more, same)
  ]
]
