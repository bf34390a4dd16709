-- Pairs of a choice and an input that speaks against it, as a search finds them one after another.
use Rattle.std.specs.Prelude.{ℕ, ◌≡◌, ◌<◌, ◌≤◌, ◌⊎◌, ◌++◌, List, map, take, length, slice_get, Some, Option, All}
use Rattle.sk_base.specs.declared.bounds.Bounds.{Bounds}
use Rattle.sk_model.specs.declared.expanded.Choice.{Choice}
use Rattle.sk_model.specs.declared.expanded.Expanded.{Expanded}
use Rattle.sk_model.specs.declared.expanded.Input.{Input}
use Rattle.sk_model.specs.declared.expanded.Pair.{Pair}
use Rattle.sk_model.specs.Fill.{InRange, fill}
use Rattle.sk_model.specs.Inputs.{IsInput}
use Rattle.sk_model.specs.Meets.{Breaks, cost_on}
use Rattle.sk_oblig_queries.specs.Queries.{IsBad, IsWanted}

-- the inputs of pairs, in order
abbrev pub inputs_of : List Pair → List Input
inputs_of pairs = map (λ (p : Pair). p.input) pairs

-- the input costs more than nothing, and more than each earlier one
pub record CostsMore (e : Expanded) (bounds : Bounds) (choice : Choice) (earlier : List Input) (input : Input) : Type 0 where
  pub more : 0 < cost_on (fill e choice) bounds input
  pub each : All (λ i. cost_on (fill e choice) bounds i < cost_on (fill e choice) bounds input) earlier

-- A choice in range which no earlier input breaks, and an input that breaks it, or costs more under it than each earlier one.
pub record IsHonest (e : Expanded) (bounds : Bounds) (earlier : List Input) (pair : Pair) : Type 0 where
  pub range : InRange e pair.choice
  pub is_input : IsInput e.prog bounds pair.input
  pub unbroken : All (λ i. Breaks (fill e pair.choice) bounds i → ⊥) earlier
  pub speaks : Breaks (fill e pair.choice) bounds pair.input ⊎ CostsMore e bounds pair.choice earlier pair.input

-- Each pair is honest beside the inputs of the pairs before it.
pub record Honest (e : Expanded) (bounds : Bounds) (pairs : List Pair) : Type 0 where
  pub each : (i : ℕ) (p : Pair) → slice_get pairs i ≡ Some p → IsHonest e bounds (inputs_of (take i pairs)) p

-- A choice that passes the earlier inputs within the limit, and an input that speaks against it.
pub record IsRound (e : Expanded) (bounds : Bounds) (limit : Option ℕ) (earlier : List Input) (pair : Pair) : Type 0 where
  pub wanted : IsWanted e bounds earlier limit pair.choice
  pub bad : IsBad e bounds pair.choice limit pair.input

-- The old pairs stand first, and each one behind them is of a round with this limit.
pub record Grown (e : Expanded) (bounds : Bounds) (limit : Option ℕ) (old new : List Pair) : Type 0 where
  pub added : List Pair
  pub behind : new ≡ old ++ added
  pub rounds : (i : ℕ) (p : Pair) → length old ≤ i → slice_get new i ≡ Some p → IsRound e bounds limit (inputs_of (take i new)) p
