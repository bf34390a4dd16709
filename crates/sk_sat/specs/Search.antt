-- What a search comes to.
use Rattle.std.specs.Prelude.{◌≡◌, ℕ, ◌<◌, ◌++◌, List, [], length}
use Rattle.sk_clause.specs.declared.lit.Lit.{Lit}
use Rattle.sk_clause.specs.Meaning.{valuation, Meets, Falsifies, NoneIncludes}
use Rattle.sk_sat.specs.declared.search.Outcome.{Outcome}
use Rattle.sk_sat.specs.declared.search.Outcome.TheVariants.{Sat, Unsat, Spent}

-- fewer clauses were learnt than the budget says, if there is one
abbrev pub IsUnspent : ℕ → List (List Lit) → Type 0
IsUnspent budget fresh = 0 < budget → length fresh < budget

abbrev pub IsOutcome : ℕ → List (List Lit) → List (List Lit) → ℕ → Outcome → Type 0
IsOutcome vars clauses fresh budget (Sat bits) = (length bits.items ≡ vars) × Meets (valuation bits.items) clauses × IsUnspent budget fresh
IsOutcome vars clauses fresh budget Unsat = Falsifies (clauses ++ fresh) [] × IsUnspent budget fresh
IsOutcome vars clauses fresh budget Spent = (0 < budget) × (length fresh ≡ budget) × NoneIncludes clauses fresh
