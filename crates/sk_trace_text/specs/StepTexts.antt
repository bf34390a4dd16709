-- What `trace` writes of a run: a line for each step, in their order, up to 65,536 of them; the line `more` where there are others;
-- and then the lines of the run's end, as `exec` writes them. The line of a step has the number of active calls, the first
-- byte of the statement and the first one behind it, and what the statement did: `store` with the value that it stored,
-- `true` or `false` for its condition, `cost` with its number, or `go` for a return and for a call that stands as a statement.
use Rattle.std.specs.Prelude.{ℕ, Bool, true, false, List, [], ◌++◌, length, take, nat_lt, codes}
use Rattle.std.specs.Fmt.{decimal, signed_decimal}
use Rattle.std.specs.List.{flat_map}
use Rattle.sk_prog.specs.declared.prog.Fun.{Fun}
use Rattle.sk_model.specs.declared.outcome.Outcome.{Outcome}
use Rattle.sk_app_texts.specs.ValueTexts.{value_text}
use Rattle.sk_app_texts.specs.RunTexts.{span_text, run_text}
use Rattle.sk_interp_laws.specs.declared.step.Step.{Step}
use Rattle.sk_interp_laws.specs.declared.step.What.{What}
use Rattle.sk_interp_laws.specs.declared.step.What.TheVariants as what
use Rattle.sk_trace.specs.Most.{most_steps}

abbrev pub truth_word : Bool → List ℕ
truth_word true = codes "true"
truth_word false = codes "false"

abbrev pub what_text : What → List ℕ
what_text (what.Store v) = codes "store " ++ value_text v
what_text (what.Truth b) = truth_word b
what_text (what.Cost n) = codes "cost " ++ signed_decimal n
what_text what.Go = codes "go"

abbrev pub step_line : Step → List ℕ
step_line s = decimal s.active ++ codes " " ++ span_text s.span ++ codes " " ++ what_text s.what ++ codes "\n"

-- whether there are steps that are not shown
abbrev pub more_line : Bool → List ℕ
more_line true = codes "more\n"
more_line false = []

-- these steps, whether there are others, and the end
abbrev pub shown_text : Fun → List Step → Bool → Outcome → List ℕ
shown_text f steps more outcome = flat_map step_line steps ++ more_line more ++ run_text f outcome

-- what is written of a run of this function with these steps, which ends so
abbrev pub trace_text : Fun → List Step → Outcome → List ℕ
trace_text f steps outcome = shown_text f (take most_steps steps) (nat_lt most_steps (length steps)) outcome
