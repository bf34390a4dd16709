-- What a choice costs in a program without costs.
use Rattle.std.specs.Prelude.{◌≡◌, IsTrue}
use Rattle.sk_base.specs.declared.bounds.Bounds.{Bounds}
use Rattle.sk_model.specs.declared.expanded.Choice.{Choice}
use Rattle.sk_model.specs.declared.expanded.Expanded.{Expanded}
use Rattle.sk_model.specs.declared.expanded.Input.{Input}
use Rattle.sk_model.specs.Fill.{fill}
use Rattle.sk_model.specs.Meets.{cost_on, IsGreatestCost}
use Rattle.sk_holes_choice_laws.specs.Meeting.{IsMetUnder}
use Rattle.sk_min_costs.specs.Free.{is_free}

-- a filling of a program without costs costs nothing on any input
abbrev pub FreeCostsNothing : Type 0
FreeCostsNothing = (e : Expanded) (choice : Choice) (bounds : Bounds) → IsMetUnder e choice bounds → IsTrue (is_free e.prog) → (input : Input) → cost_on (fill e choice) bounds input ≡ 0

-- and so its greatest cost is 0
abbrev pub FreeIsBest : Type 0
FreeIsBest = (e : Expanded) (choice : Choice) (bounds : Bounds) → IsMetUnder e choice bounds → IsTrue (is_free e.prog) → IsGreatestCost (fill e choice) bounds 0
