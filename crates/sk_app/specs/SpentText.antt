-- What is written where a budget is spent, with no certificate asked for.
use Rattle.std.specs.Prelude.{ℕ, List, [], ◌++◌, Option, Some, None, codes}
use Rattle.std.specs.Fmt.{decimal}
use Rattle.std.specs.List.{flat_map}
use Rattle.sk_prog.specs.declared.value.Value.{Value}
use Rattle.sk_model.specs.declared.expanded.Choice.{Choice}
use Rattle.sk_model.specs.declared.expanded.Input.{Input}
use Rattle.sk_model.specs.declared.expanded.Pair.{Pair}
use Rattle.sk_model.specs.declared.expanded.Expanded.{Expanded}
use Rattle.sk_model.specs.Fill.{fill}
use Rattle.sk_print.specs.Layout.{layout}
use Rattle.sk_app_texts.specs.ValueTexts.{value_text}
use Rattle.sk_app.specs.ResultText.{spaced}

-- Pairs

-- a value with a space before it
abbrev pub argument_text : Value → List ℕ
argument_text v = codes " " ++ value_text v

abbrev pub choice_line : Choice → List ℕ
choice_line a = codes "//@ choice" ++ spaced a.values ++ codes "\n"

-- the number of its obligation, and its arguments
abbrev pub input_line : Input → List ℕ
input_line i = codes "//@ input " ++ decimal i.obligation ++ flat_map argument_text i.args ++ codes "\n"

-- a choice, and the input that speaks against it
abbrev pub pair_lines : Pair → List ℕ
pair_lines p = choice_line p.choice ++ input_line p.input

-- the budget that is spent: so many rounds, with the pairs that they found, or so many conflicts
pub data Spent : Type 0 where
  OfRounds : ℕ → List Pair → Spent
  OfConflicts : ℕ → Spent

abbrev pub spent_lines : Spent → List ℕ
spent_lines (OfRounds n pairs) = codes "//@ spent rounds " ++ decimal n ++ codes "\n" ++ flat_map pair_lines pairs
spent_lines (OfConflicts n) = codes "//@ spent conflicts " ++ decimal n ++ codes "\n"

-- the last choice that is known to meet every obligation, which may not be the least
abbrev pub best_lines : Choice → List ℕ
best_lines a = codes "//@ completion\n//@ holes" ++ spaced a.values ++ codes "\n"

-- where no completion was found before the budget was spent
abbrev pub spent_text : Spent → List ℕ
spent_text spent = spent_lines spent

-- where a completion was found
abbrev pub spent_with_best_text : Expanded → Choice → Spent → List ℕ
spent_with_best_text e a spent = layout (fill e a) ++ best_lines a ++ spent_lines spent

-- the choice that is known, if there is one
abbrev pub known_text : Expanded → Option Choice → List ℕ
known_text e None = []
known_text e (Some a) = layout (fill e a) ++ best_lines a

-- with the choice that is known, if there is one
abbrev pub spent_result : Expanded → Option Choice → Spent → List ℕ
spent_result e None spent = spent_text spent
spent_result e (Some a) spent = spent_with_best_text e a spent
