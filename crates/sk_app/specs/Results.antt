-- Which endings of a line `synth` have a result text, and which text it is.
use Rattle.std.specs.Prelude.{ℕ, Bool, List}
use Rattle.sk_base.specs.declared.bounds.Budget.{Budget}
use Rattle.sk_loop_laws.specs.Shown.{AreSpent}
use Rattle.sk_opts.specs.declared.line.Set.{Set}
use Rattle.sk_app.specs.declared.ending.Ending.{Ending}
use Rattle.sk_app.specs.declared.ending.Ending.TheVariants.{Completed, NoCompletion, SpentRounds, SpentConflicts}
use Rattle.sk_app.specs.ResultText.{IsCompletion, IsNone}
use Rattle.sk_app.specs.Spent.{AreLearnt, IsSpentRounds, IsSpentConflicts}

-- the result text of an ending, with these options and budgets, and with a certificate or without
abbrev pub IsResultOf : Set → Budget → Bool → List ℕ → Ending → List ℕ → Type 0
IsResultOf set budget cert text Completed out = IsCompletion set budget cert text out
IsResultOf set budget cert text (NoCompletion pairs) out = IsNone set budget cert text pairs out
IsResultOf set budget cert text (SpentRounds pairs best) out = IsSpentRounds set budget text pairs best out
IsResultOf set budget cert text (SpentConflicts pairs q f log best) out = IsSpentConflicts set budget cert text pairs q f log best out
IsResultOf set budget cert text _ out = ⊥

-- This ending tells that a budget is spent, which is not 0.
abbrev pub IsSpent : Budget → Ending → Type 0
IsSpent budget (SpentRounds pairs best) = AreSpent budget.rounds pairs
IsSpent budget (SpentConflicts pairs q f log best) = AreLearnt budget.conflicts log
IsSpent budget _ = ⊥

-- Whatever the text is, an ending has a result text only where no budget is spent, or where one is that is not 0.
abbrev pub HasResult : Budget → Ending → Type 0
HasResult budget Completed = Unit {0}
HasResult budget (NoCompletion pairs) = Unit {0}
HasResult budget ending = IsSpent budget ending

-- a text that a line `synth` writes
pub record IsResult (set : Set) (budget : Budget) (cert : Bool) (text out : List ℕ) : Type 0 where
  pub ending : Ending
  pub is : IsResultOf set budget cert text ending out
