-- Completions that cost least.
use Rattle.std.specs.Prelude.{ℕ, zero, suc, ◌≤◌, max, List, [], ◌∷◌, Some}
use Rattle.sk_base.specs.declared.bounds.Bounds.{Bounds}
use Rattle.sk_model.specs.declared.expanded.Choice.{Choice}
use Rattle.sk_model.specs.declared.expanded.Expanded.{Expanded}
use Rattle.sk_model.specs.declared.expanded.Input.{Input}
use Rattle.sk_model.specs.Fill.{InRange, fill}
use Rattle.sk_model.specs.Meets.{Meets, IsGreatestCost, cost_on}
use Rattle.sk_oblig_queries.specs.Queries.{IsWanted}

-- A choice in range whose filling meets its obligations.
pub record Meeting (e : Expanded) (bounds : Bounds) (choice : Choice) : Type 0 where
  pub range : InRange e choice
  pub meets : Meets (fill e choice) bounds

-- Its greatest cost is the value, and no other such filling has a smaller one.
pub record IsBest (e : Expanded) (bounds : Bounds) (choice : Choice) (value : ℕ) : Type 0 where
  pub meeting : Meeting e bounds choice
  pub costs : IsGreatestCost (fill e choice) bounds value
  pub least : (b : Choice) → Meeting e bounds b → (v : ℕ) → IsGreatestCost (fill e b) bounds v → value ≤ v

-- where the value is above 0, no choice in range passes the inputs within the value less 1
abbrev pub NoneBelow : Expanded → Bounds → List Input → ℕ → Type 0
NoneBelow e bounds inputs zero = Unit {0}
NoneBelow e bounds inputs (suc less) = (choice : Choice) → IsWanted e bounds inputs (Some less) choice → ⊥

-- the greatest cost of the inputs under a choice, and 0 where there is none
abbrev pub greatest_on : Expanded → Bounds → Choice → List Input → ℕ
greatest_on e bounds choice [] = 0
greatest_on e bounds choice (i ∷ is) = max (cost_on (fill e choice) bounds i) (greatest_on e bounds choice is)
