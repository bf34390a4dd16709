-- Laws of the greatest cost, and when a choice is the best one.
use Rattle.std.specs.Prelude.{ℕ, ◌≡◌, ◌<◌, ◌≤◌, ◌-◌, ◌⊎◌, ◌↔◌, List, Some, All, Contains}
use Rattle.sk_base.specs.declared.bounds.Bounds.{Bounds}
use Rattle.sk_model.specs.declared.expanded.Choice.{Choice}
use Rattle.sk_model.specs.declared.expanded.Expanded.{Expanded}
use Rattle.sk_model.specs.declared.expanded.Input.{Input}
use Rattle.sk_model.specs.Fill.{fill}
use Rattle.sk_model.specs.Meets.{IsGreatestCost, cost_on}
use Rattle.sk_loop_laws.specs.Shown.{NonePasses}
use Rattle.sk_min_laws.specs.Best.{Meeting, IsBest, greatest_on}

-- it is at most a number exactly where no input costs more
abbrev pub GreatestIsWithin : Type 0
GreatestIsWithin = (e : Expanded) (bounds : Bounds) (choice : Choice) (inputs : List Input) (most : ℕ) → greatest_on e bounds choice inputs ≤ most ↔ All (λ i. cost_on (fill e choice) bounds i ≤ most) inputs

-- it is the cost of one of the inputs, unless it is 0
abbrev pub GreatestIsReached : Type 0
GreatestIsReached =
    (e : Expanded) (bounds : Bounds) (choice : Choice) (inputs : List Input)
    → (greatest_on e bounds choice inputs ≡ 0) ⊎ ((i : Input) × Contains inputs i × (cost_on (fill e choice) bounds i ≡ greatest_on e bounds choice inputs))

-- a choice is the best one where none passes some inputs within its greatest cost less 1
abbrev pub BestWhereNonePasses : Type 0
BestWhereNonePasses =
    (e : Expanded) (bounds : Bounds) (choice : Choice) (value : ℕ) (inputs : List Input) → Meeting e bounds choice → IsGreatestCost (fill e choice) bounds value → 0 < value → NonePasses e bounds inputs (Some (value - 1))
    → IsBest e bounds choice value
