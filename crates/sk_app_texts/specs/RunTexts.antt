-- What `exec` writes. A run that is done gives the line `result V`, with `-` for the result of a function that has none; a
-- line `ref NAME V` for each `ref` parameter, in their order, with the value that it ended with; and the line `cost C`.
-- A run that fails or is skipped gives one line, `failed FROM TO` or `skipped FROM TO`, with the bytes of the statement
-- at which it ended.
use Rattle.std.specs.Prelude.{ℕ, List, [], ◌∷◌, ◌++◌, Option, Some, None, if◌then◌else◌, codes}
use Rattle.std.specs.Fmt.{decimal}
use Rattle.std.specs.List.{flat_map, zip}
use Rattle.sk_base.specs.declared.span.Span.{Span}
use Rattle.sk_prog.specs.declared.value.Value.{Value}
use Rattle.sk_prog.specs.declared.prog.ParamDef.{ParamDef}
use Rattle.sk_prog.specs.declared.prog.Fun.{Fun}
use Rattle.sk_model.specs.declared.outcome.Outcome.{Outcome}
use Rattle.sk_model.specs.declared.outcome.Outcome.TheVariants as outcome
use Rattle.sk_app_texts.specs.ValueTexts.{value_text}

-- the value of a call, or `-` for none
abbrev pub result_text : Option Value → List ℕ
result_text None = codes "-"
result_text (Some v) = value_text v

-- the names of the `ref` parameters
abbrev pub ref_names : List ParamDef → List (List ℕ)
ref_names params = flat_map (λ p. if p.by_ref then p.name ∷ [] else []) params

abbrev pub ref_line : List ℕ × Value → List ℕ
ref_line named = codes "ref " ++ named.0 ++ codes " " ++ value_text named.1 ++ codes "\n"

-- the first byte of a statement, and the first one behind it
abbrev pub span_text : Span → List ℕ
span_text span = decimal span.from ++ codes " " ++ decimal span.to

-- what is written of a run of this function
abbrev pub run_text : Fun → Outcome → List ℕ
run_text f (outcome.Done result refs cost) =
    codes "result " ++ result_text result ++ codes "\n"
    ++ flat_map ref_line (zip (ref_names f.params) refs)
    ++ codes "cost " ++ decimal cost ++ codes "\n"
run_text f (outcome.Failed span) = codes "failed " ++ span_text span ++ codes "\n"
run_text f (outcome.Skipped span) = codes "skipped " ++ span_text span ++ codes "\n"
