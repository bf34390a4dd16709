-- What a program with algebraic types does when one of its functions is run on arguments: as a run, but with records by their variants, and with a fourth
-- end, that it strayed.
use Rattle.std.specs.Prelude.{ℕ, zero, suc, ◌==◌, ◌++◌, List, [], ◌∷◌, count_by, slice_get, Option, Some, None, nat_lt, if◌then◌else◌}
use Rattle.sk_base.specs.declared.span.Span.{Span}
use Rattle.sk_base.specs.declared.bounds.Bounds.{Bounds}
use Rattle.sk_prog.specs.declared.ids.FunId.{FunId}
use Rattle.sk_prog.specs.declared.value.Value.{Value}
use Rattle.sk_prog.specs.declared.prog.Fun.{Fun}
use Rattle.sk_prog.specs.declared.prog.Prog.{Prog}
use Rattle.sk_model.specs.declared.outcome.Outcome.{Outcome}
use Rattle.sk_model.specs.declared.outcome.Outcome.TheVariants as outcome
use Rattle.sk_model.specs.Eval.{Called}
use Rattle.sk_model.specs.Exec.{Flow}
use Rattle.sk_model.specs.Run.{result_of, refs_from, first_slots, most_calls, nowhere}
use Rattle.sk_adt.specs.declared.algebraic.Algebraic.{Algebraic}
use Rattle.sk_adt_records.specs.Steps.{State, Step, Goes, Fails, Skips, Strays, Comp, and_then, fail}
use Rattle.sk_adt_records.specs.Eval.{Calls}
use Rattle.sk_adt_records.specs.Exec.{exec_all}

-- how a run ends
pub data Ending : Type 0 where
  Ends : Outcome → Ending
  Stray : Ending

-- a body in variables of its own
abbrev pub in_frame : Fun → List Value → Comp Flow → Comp Called
in_frame fun args body = λ s. and_then (body (record s { slots = first_slots fun args }))
    (λ flow end. Goes (record { result = result_of fun.result flow; refs = refs_from 0 fun.params end.slots }) (record end { slots = s.slots }))

abbrev pub body_of : (Fun → Comp Flow) → Span → Option Fun → List Value → Comp Called
body_of body span None args = fail span
body_of body span (Some fun) args = in_frame fun args (body fun)

-- Calls where calls of these functions are active, and so many more calls may be.
unfoldable pub calls : List Algebraic → Prog → Bounds → ℕ → List ℕ → Calls
calls types prog bounds zero active span f args = fail span
calls types prog bounds (suc left) active span f args =
    if nat_lt (count_by (λ g. g == f) active) bounds.inline_amnt
    then body_of (λ fun. exec_all types prog bounds (calls types prog bounds left (active ++ f ∷ [])) fun.body) span (slice_get prog.funs f) args
    else fail span

abbrev pub ending_of : Step Called → Ending
ending_of (Goes called s) = Ends (outcome.Done called.result called.refs s.cost)
ending_of (Fails span) = Ends (outcome.Failed span)
ending_of (Skips span) = Ends (outcome.Skipped span)
ending_of Strays = Stray

-- the first state: no record, no variable, no cost
abbrev pub start : State
start = record { heap = []; slots = []; cost = 0 }

unfoldable pub run_by_variants : Prog → List Algebraic → FunId → List Value → Bounds → Ending
run_by_variants prog types f args bounds = ending_of (calls types prog bounds most_calls [] nowhere f.index args start)
