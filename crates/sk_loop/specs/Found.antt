-- What a search for a choice answers.
use Rattle.std.specs.Prelude.{ℕ, ◌≡◌, List, Option}
use Rattle.sk_base.specs.declared.bounds.Bounds.{Bounds}
use Rattle.sk_base.specs.declared.bounds.Budget.{Budget}
use Rattle.sk_model.specs.declared.expanded.Expanded.{Expanded}
use Rattle.sk_model.specs.declared.expanded.Pair.{Pair}
use Rattle.sk_loop_laws.specs.Honest.{inputs_of}
use Rattle.sk_loop_laws.specs.Shown.{Completes, NonePasses, Learnt, AreSpent, HasRoom, limit_of, IsOfSearch}
use Rattle.sk_loop.specs.declared.found.Found.{Found}
use Rattle.sk_loop.specs.declared.found.Found.TheVariants as found

-- `Choice` completes within the limit. `Nothing` comes only where no choice passes the inputs of the pairs within it.
-- `Rounds` and `Conflicts` come only where a budget is spent, which is not 0, and `Conflicts` with a query of this limit of the
-- search itself. All but `Rounds` come only where a further pair may be found.
abbrev pub IsFound : Expanded → Bounds → Option ℕ → Budget → List Pair → Found → Type 0
IsFound e bounds limit budget pairs (found.Choice choice) = Completes e bounds limit choice × HasRoom budget pairs
IsFound e bounds limit budget pairs found.Nothing = NonePasses e bounds (inputs_of pairs) limit × HasRoom budget pairs
IsFound e bounds limit budget pairs found.Rounds = AreSpent budget.rounds pairs
IsFound e bounds limit budget pairs (found.Conflicts q f log) = Learnt e bounds budget.conflicts pairs q f log × (limit_of q ≡ limit) × IsOfSearch q × HasRoom budget pairs
