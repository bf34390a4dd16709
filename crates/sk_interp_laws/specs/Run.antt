-- A run with its log: calls have the bounds of a run, variables of their own, the same heap and the same log. Of the calls that may be active
-- at a time so many are as are not left.
use Rattle.std.specs.Prelude.{ℕ, zero, suc, ◌-◌, ◌==◌, ◌++◌, List, [], ◌∷◌, count_by, slice_get, Option, Some, None, nat_lt, if◌then◌else◌}
use Rattle.sk_base.specs.declared.span.Span.{Span}
use Rattle.sk_base.specs.declared.bounds.Bounds.{Bounds}
use Rattle.sk_prog.specs.declared.ids.FunId.{FunId}
use Rattle.sk_prog.specs.declared.value.Value.{Value}
use Rattle.sk_prog.specs.declared.prog.Fun.{Fun}
use Rattle.sk_prog.specs.declared.prog.Prog.{Prog}
use Rattle.sk_model.specs.declared.outcome.Outcome.{Outcome}
use Rattle.sk_model.specs.declared.outcome.Outcome.TheVariants as outcome
use Rattle.sk_model.specs.Eval.{Called}
use Rattle.sk_model.specs.Exec.{Flow}
use Rattle.sk_model.specs.Run.{result_of, refs_from, first_slots, most_calls, nowhere, start}
use Rattle.sk_interp_laws.specs.declared.step.Step.{Step}
use Rattle.sk_interp_laws.specs.Recording.{Going, Goes, Fails, Skips, Traced, and_then, fail}
use Rattle.sk_interp_laws.specs.Eval.{Calls}
use Rattle.sk_interp_laws.specs.Exec.{exec_all}

module _ {L : Type 0} where
  -- a body in variables of its own
  abbrev pub in_frame : Fun → List Value → Traced L Flow → Traced L Called
  in_frame fun args body = λ r. and_then (body (record r { memory = record r.memory { slots = first_slots fun args } }))
      (λ flow end. Goes (record { result = result_of fun.result flow; refs = refs_from 0 fun.params end.memory.slots }) (record end { memory = record end.memory { slots = r.memory.slots } }))

  abbrev pub body_of : (Fun → Traced L Flow) → Span → Option Fun → List Value → Traced L Called
  body_of body span None args = fail span
  body_of body span (Some fun) args = in_frame fun args (body fun)

-- Calls where calls of these functions are active, and so many more calls may be.
unfoldable pub calls : {L : Type 0} → (L → Step → L) → Prog → Bounds → ℕ → List ℕ → Calls L
calls take prog bounds zero active span f args = fail span
calls take prog bounds (suc left) active span f args =
    if nat_lt (count_by (λ g. g == f) active) bounds.inline_amnt
    then body_of (λ fun. exec_all take (most_calls - left) prog bounds (calls take prog bounds left (active ++ f ∷ [])) fun.body) span (slice_get prog.funs f) args
    else fail span

module _ {L : Type 0} where
  -- the log of all steps
  abbrev pub log_of : {A : Type 0} → Going L A → L
  log_of (Goes a r) = r.log
  log_of (Fails span log) = log
  log_of (Skips span log) = log

  -- the end without the steps
  abbrev pub outcome_of : Going L Called → Outcome
  outcome_of (Goes called r) = outcome.Done called.result called.refs r.memory.cost
  outcome_of (Fails span log) = outcome.Failed span
  outcome_of (Skips span log) = outcome.Skipped span

-- a run of a function, which begins with this log
abbrev pub recorded : {L : Type 0} → (L → Step → L) → L → Prog → FunId → List Value → Bounds → Going L Called
recorded take log prog f args bounds = calls take prog bounds most_calls [] nowhere f.index args (record { memory = start; log = log })
