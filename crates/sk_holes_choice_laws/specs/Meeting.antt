-- When a choice meets what must hold, said of runs under it: nothing is filled.
use Rattle.std.specs.Prelude.{ℕ, ◌≡◌, List, slice_get, Option, Some, None}
use Rattle.sk_base.specs.declared.bounds.Bounds.{Bounds}
use Rattle.sk_prog.specs.declared.value.Value.{Value}
use Rattle.sk_prog.specs.declared.prog.Prog.{Prog}
use Rattle.sk_model.specs.declared.expanded.Choice.{Choice}
use Rattle.sk_model.specs.declared.expanded.Expanded.{Expanded}
use Rattle.sk_model.specs.declared.expanded.Obligation.{Obligation}
use Rattle.sk_model.specs.declared.expanded.Obligation.TheVariants as obligation
use Rattle.sk_model.specs.declared.expanded.Input.{Input}
use Rattle.sk_model.specs.Obligations.{obligations}
use Rattle.sk_model.specs.Inputs.{IsInput}
use Rattle.sk_model.specs.Meets.{HasFailed, SpeaksAgainst, Breaks, Meets, cost_of, cost_on}
use Rattle.sk_model.specs.Expand.{expand}
use Rattle.sk_model.specs.Fill.{fill}
use Rattle.sk_model.specs.Open.{run_open}
use Rattle.sk_holes_choice_laws.specs.Running.{IsChosen}

abbrev pub IsBrokenUnder : Expanded → Choice → Bounds → List Value → Option Obligation → Type 0
IsBrokenUnder e a bounds args (Some (obligation.Harness f)) = HasFailed (run_open e a f args bounds)
IsBrokenUnder e a bounds args (Some (obligation.Implements f g)) = SpeaksAgainst (run_open e a g args bounds) (run_open e a f args bounds)
IsBrokenUnder e a bounds args None = ⊥

-- Under the choice the input breaks the expansion: its obligation is a harness, which fails on its arguments, or it is
-- `f implements g`, and the run of g speaks against that of f.
abbrev pub BreaksUnder : Expanded → Choice → Bounds → Input → Type 0
BreaksUnder e a bounds input = IsBrokenUnder e a bounds input.args (slice_get (obligations e.prog) input.obligation)

abbrev pub cost_of_obligation_under : Expanded → Choice → Bounds → List Value → Option Obligation → ℕ
cost_of_obligation_under e a bounds args (Some (obligation.Harness f)) = cost_of (run_open e a f args bounds)
cost_of_obligation_under e a bounds args _ = 0

-- the cost of a harness that is done on the input under the choice, and 0 for any other
abbrev pub cost_under : Expanded → Choice → Bounds → Input → ℕ
cost_under e a bounds input = cost_of_obligation_under e a bounds input.args (slice_get (obligations e.prog) input.obligation)

-- What a filling must do is what its expansion must do: the obligations are the same, and so are the inputs, which inputs break
-- it, and what they cost.
pub record IsMetUnder (e : Expanded) (a : Choice) (bounds : Bounds) : Type 0 where
  pub obligations : obligations (fill e a) ≡ obligations e.prog
  pub inputs : (input : Input) → (IsInput (fill e a) bounds input → IsInput e.prog bounds input) × (IsInput e.prog bounds input → IsInput (fill e a) bounds input)
  pub breaks : (input : Input) → (Breaks (fill e a) bounds input → BreaksUnder e a bounds input) × (BreaksUnder e a bounds input → Breaks (fill e a) bounds input)
  pub costs : (input : Input) → cost_on (fill e a) bounds input ≡ cost_under e a bounds input

abbrev pub ChoicesMeetAsFillings : Type 0
ChoicesMeetAsFillings = (bounds : Bounds) (prog : Prog) (choice : Choice) → IsChosen bounds prog choice → IsMetUnder (expand prog bounds) choice bounds
