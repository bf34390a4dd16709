-- What a program does when one of its functions is run on arguments, as a function: a run ends in
-- exactly one way. A call fails where the inlining bound many calls of its function, or 128 calls in
-- all, are active; the run's own function counts. A call has variables of its own, works on the same
-- heap and adds to the same cost. A function without a result gives none, and one whose body ends
-- without a return gives the zero of its type. The first call stands in no statement: its span is empty.
use Rattle.std.specs.Prelude.{ℕ, zero, suc, ◌+◌, ◌-◌, ◌==◌, ◌++◌, List, [], ◌∷◌, length, replicate, count_by, slice_get, slice_index_or, Option, Some, None, nat_lt, if◌then◌else◌}
use Rattle.sk_base.specs.declared.span.Span.{Span}
use Rattle.sk_base.specs.declared.bounds.Bounds.{Bounds}
use Rattle.sk_prog.specs.declared.ids.FunId.{FunId}
use Rattle.sk_prog.specs.declared.ty.Ty.{Ty}
use Rattle.sk_prog.specs.declared.value.Value.{Value}
use Rattle.sk_prog.specs.declared.prog.ParamDef.{ParamDef}
use Rattle.sk_prog.specs.declared.prog.Fun.{Fun}
use Rattle.sk_prog.specs.declared.prog.Prog.{Prog}
use Rattle.sk_model.specs.declared.outcome.Outcome.{Outcome}
use Rattle.sk_model.specs.declared.outcome.Outcome.TheVariants as outcome
use Rattle.sk_model.specs.Step.{State, Step, Goes, Fails, Skips, Comp, and_then, fail}
use Rattle.sk_model.specs.Values.{zero_of}
use Rattle.sk_model.specs.Heap.{blank}
use Rattle.sk_model.specs.Eval.{Called, Calls}
use Rattle.sk_model.specs.Exec.{Flow, Onward, Returns, exec_all}

-- the result of a function with this result type whose body ended so
abbrev pub result_of : Option Ty → Flow → Option Value
result_of None flow = None
result_of (Some t) (Returns (Some v)) = Some v
result_of (Some t) (Returns None) = Some (zero_of t)
result_of (Some t) Onward = Some (zero_of t)

-- the values in the slots of the `ref` parameters, of which the first stands in this slot
abbrev pub refs_from : ℕ → List ParamDef → List Value → List Value
refs_from slot [] slots = []
refs_from slot (p ∷ ps) slots = if p.by_ref then slice_index_or slots slot blank ∷ refs_from (slot + 1) ps slots else refs_from (slot + 1) ps slots

-- the variables at the start of a call: the arguments, and those that are not declared yet
abbrev pub first_slots : Fun → List Value → List Value
first_slots fun args = args ++ replicate (fun.slots - length args) blank

-- a body in variables of its own
abbrev pub in_frame : Fun → List Value → Comp Flow → Comp Called
in_frame fun args body = λ s. and_then (body (record s { slots = first_slots fun args }))
    (λ flow end. Goes (record { result = result_of fun.result flow; refs = refs_from 0 fun.params end.slots }) (record end { slots = s.slots }))

-- what the body of the function with this number does, where calls do so much
abbrev pub Bodies : Type 0
Bodies = Calls → ℕ → Fun → Comp Flow

abbrev pub body_of : (Fun → Comp Flow) → Span → Option Fun → List Value → Comp Called
body_of body span None args = fail span
body_of body span (Some fun) args = in_frame fun args (body fun)

-- Calls where calls of these functions are active, and so many more calls may be.
unfoldable pub calls : Prog → Bounds → Bodies → ℕ → List ℕ → Calls
calls prog bounds bodies zero active span f args = fail span
calls prog bounds bodies (suc left) active span f args =
    if nat_lt (count_by (λ g. g == f) active) bounds.inline_amnt
    then body_of (bodies (calls prog bounds bodies left (active ++ f ∷ [])) f) span (slice_get prog.funs f) args
    else fail span

abbrev pub outcome_of : Step Called → Outcome
outcome_of (Goes called s) = outcome.Done called.result called.refs s.cost
outcome_of (Fails span) = outcome.Failed span
outcome_of (Skips span) = outcome.Skipped span

-- how many calls may be active at a time
abbrev pub most_calls : ℕ
most_calls = 128

-- no place in the text
abbrev pub nowhere : Span
nowhere = record { from = 0; to = 0 }

-- the first state: no record, no variable, no cost
abbrev pub start : State
start = record { heap = []; slots = []; cost = 0 }

-- a run of a function, by what the bodies do
abbrev pub run_by : Prog → Bodies → FunId → List Value → Bounds → Outcome
run_by prog bodies f args bounds = outcome_of (calls prog bounds bodies most_calls [] nowhere f.index args start)

-- a body does its statements
abbrev pub filled_bodies : Prog → Bounds → Bodies
filled_bodies prog bounds call f fun = exec_all prog bounds call fun.body

unfoldable pub run : Prog → FunId → List Value → Bounds → Outcome
run prog f args bounds = run_by prog (filled_bodies prog bounds) f args bounds
