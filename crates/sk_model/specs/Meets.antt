-- When a program meets its obligations, and what its runs cost.
use Rattle.std.specs.Prelude.{ℕ, ◌≡◌, ◌≤◌, ◌⊎◌, List, slice_get, Option, Some, None, All, IfSome}
use Rattle.sk_base.specs.declared.bounds.Bounds.{Bounds}
use Rattle.sk_prog.specs.declared.value.Value.{Value}
use Rattle.sk_prog.specs.declared.prog.Prog.{Prog}
use Rattle.sk_model.specs.declared.expanded.Obligation.{Obligation}
use Rattle.sk_model.specs.declared.expanded.Obligation.TheVariants as obligation
use Rattle.sk_model.specs.declared.expanded.Input.{Input}
use Rattle.sk_model.specs.declared.outcome.Outcome.{Outcome}
use Rattle.sk_model.specs.declared.outcome.Outcome.TheVariants as outcome
use Rattle.sk_model.specs.Obligations.{obligations}
use Rattle.sk_model.specs.Inputs.{IsInput}
use Rattle.sk_model.specs.Run.{run}

abbrev pub HasFailed : Outcome → Type 0
HasFailed (outcome.Failed span) = Unit {0}
HasFailed _ = ⊥

-- done with this result and these final values of the `ref` parameters
abbrev pub IsDoneWith : Option Value → List Value → Outcome → Type 0
IsDoneWith result refs (outcome.Done r rs cost) = (r ≡ result) × (rs ≡ refs)
IsDoneWith result refs _ = ⊥

-- How the run of a reference speaks against that of its implementation: it fails, or it is done and the
-- other is not done with the same result and `ref` values. Where it is skipped nothing is asked.
abbrev pub SpeaksAgainst : Outcome → Outcome → Type 0
SpeaksAgainst (outcome.Failed span) of_f = Unit {0}
SpeaksAgainst (outcome.Done result refs cost) of_f = IsDoneWith result refs of_f → ⊥
SpeaksAgainst (outcome.Skipped span) of_f = ⊥

abbrev pub IsBroken : Prog → Bounds → List Value → Option Obligation → Type 0
IsBroken prog bounds args (Some (obligation.Harness f)) = HasFailed (run prog f args bounds)
IsBroken prog bounds args (Some (obligation.Implements f g)) = SpeaksAgainst (run prog g args bounds) (run prog f args bounds)
IsBroken prog bounds args None = ⊥

-- The input breaks the program: its obligation is a harness, which fails on its arguments, or it is
-- `f implements g`, and the run of g speaks against that of f.
unfoldable pub Breaks : Prog → Bounds → Input → Type 0
Breaks prog bounds input = IsBroken prog bounds input.args (slice_get (obligations prog) input.obligation)

-- No input breaks the program.
unfoldable pub Meets : Prog → Bounds → Type 0
Meets prog bounds = (input : Input) → IsInput prog bounds input → Breaks prog bounds input → ⊥

abbrev pub cost_of : Outcome → ℕ
cost_of (outcome.Done result refs cost) = cost
cost_of _ = 0

abbrev pub cost_of_obligation : Prog → Bounds → List Value → Option Obligation → ℕ
cost_of_obligation prog bounds args (Some (obligation.Harness f)) = cost_of (run prog f args bounds)
cost_of_obligation prog bounds args _ = 0

-- the cost of a harness that is done on the input, and 0 for any other
unfoldable pub cost_on : Prog → Bounds → Input → ℕ
cost_on prog bounds input = cost_of_obligation prog bounds input.args (slice_get (obligations prog) input.obligation)

-- v is the greatest cost over all inputs, and 0 where there is none: no input costs more, and one costs
-- as much, unless v is 0.
pub record IsGreatestCost (prog : Prog) (bounds : Bounds) (v : ℕ) : Type 0 where
  pub greatest : (input : Input) → IsInput prog bounds input → cost_on prog bounds input ≤ v
  pub reached : (v ≡ 0) ⊎ ((input : Input) × IsInput prog bounds input × (cost_on prog bounds input ≡ v))

-- No input of the list breaks the program, and where there is a limit, each costs at most so much.
pub record Passes (prog : Prog) (bounds : Bounds) (inputs : List Input) (limit : Option ℕ) : Type 0 where
  pub unbroken : All (λ input. Breaks prog bounds input → ⊥) inputs
  pub within : IfSome limit (λ most. All (λ input. cost_on prog bounds input ≤ most) inputs)
