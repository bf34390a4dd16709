-- What a run under a choice is.
use Rattle.std.specs.Prelude.{◌≡◌, ◌<◌, ◌^◌, List, length, IsTrue}
use Rattle.sk_base.specs.declared.bounds.Bounds.{Bounds}
use Rattle.sk_prog.specs.declared.ids.FunId.{FunId}
use Rattle.sk_prog.specs.declared.value.Value.{Value}
use Rattle.sk_prog.specs.declared.prog.Prog.{Prog}
use Rattle.sk_prog.specs.Fits.{prog_fits}
use Rattle.sk_types_rules.specs.WellTyped.{WellTyped}
use Rattle.sk_model.specs.declared.expanded.Choice.{Choice}
use Rattle.sk_model.specs.declared.expanded.Expanded.{Expanded}
use Rattle.sk_model.specs.Parts.{rank}
use Rattle.sk_model.specs.Stands.{standing, funs_stand, FunStands}
use Rattle.sk_model.specs.Nodes.{nodes}
use Rattle.sk_model.specs.Expand.{expand}
use Rattle.sk_model.specs.Fill.{InRange, fill}
use Rattle.sk_model.specs.Run.{run}
use Rattle.sk_model.specs.Open.{run_open}

-- what is asked of a program and a choice: it keeps the rules and is well-formed, its expansion is not too large for its names to be
-- numbered, and the choice is in range
pub record IsChosen (bounds : Bounds) (prog : Prog) (choice : Choice) : Type 0 where
  pub typed : WellTyped prog bounds
  pub fits : IsTrue (prog_fits prog)
  pub small : nodes (expand prog bounds).prog < 2 ^ 64
  pub range : InRange (expand prog bounds) choice

-- the function in the filling, where it has the number that it has among those that stand
abbrev pub filled_function : Expanded → Choice → FunId → FunId
filled_function e a f = record { index = rank (funs_stand (standing e a.values)) f.index }

-- Under a choice in range a function of an expansion that stands does what it does in the filling: the outcome of a run is the same,
-- with its spans.
abbrev pub RunsUnderChoices : Type 0
RunsUnderChoices =
    (bounds : Bounds) (prog : Prog) (choice : Choice) (f : FunId) (args : List Value) → IsChosen bounds prog choice
    → FunStands (expand prog bounds) choice.values f.index
    → run_open (expand prog bounds) choice f args bounds ≡ run (fill (expand prog bounds) choice) (filled_function (expand prog bounds) choice f) args bounds

-- An ordinary function stands under each choice, and keeps its number.
abbrev pub OrdinaryRunsUnderChoices : Type 0
OrdinaryRunsUnderChoices =
    (bounds : Bounds) (prog : Prog) (choice : Choice) (f : FunId) (args : List Value) → IsChosen bounds prog choice
    → f.index < (expand prog bounds).ordinary → f.index < length (expand prog bounds).prog.funs
    → run_open (expand prog bounds) choice f args bounds ≡ run (fill (expand prog bounds) choice) f args bounds
