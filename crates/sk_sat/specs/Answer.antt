-- What an answer says.
use Rattle.std.specs.Prelude.{◌≡◌, ℕ, ◌<◌, ◌++◌, [], ◌∷◌, All, length}
use Rattle.sk_clause.specs.Meaning.{valuation, Meets, Refutes, IsConsistent, NoneIncludes}
use Rattle.sk_sat.specs.Search.{IsUnspent}
use Rattle.sk_sat.specs.Solver.{State, gained}
use Rattle.sk_sat.specs.declared.solver.Answer.{Answer}
use Rattle.sk_sat.specs.declared.solver.Answer.TheVariants.{Sat, Unsat, Spent}

-- `Sat` meets the added clauses. The log of `Unsat` is all that was ever learnt and then the empty clause, and refutes
-- them. Either comes only where the budget, if there is one, is not used up; and where it is, `Spent` shows what this
-- call has learnt: clauses with no literal beside its negation, none of which includes a clause kept before it.
abbrev pub IsAnswer : State → State → ℕ → Answer → Type 0
IsAnswer old new budget (Sat values) = (length values ≡ old.vars) × Meets (valuation values) old.added × IsUnspent budget (gained old new)
IsAnswer old new budget (Unsat log) = (log ≡ new.learnt ++ [] ∷ []) × Refutes old.added log × IsUnspent budget (gained old new)
IsAnswer old new budget (Spent log) = (log ≡ gained old new) × (0 < budget) × (length log ≡ budget) × All IsConsistent log × NoneIncludes (old.added ++ old.learnt) log
