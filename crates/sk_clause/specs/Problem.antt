-- Clauses over a number of variables.
use Rattle.std.specs.Prelude.{ℕ, ◌<◌, List, All}
use Rattle.sk_clause.specs.declared.lit.Lit.{Lit}

-- a number of variables, and clauses over them
pub record Problem : Type 0 where
  pub vars : ℕ
  pub clauses : List (List Lit)

-- each literal's variable is below vars
abbrev pub IsWithin : ℕ → List Lit → Type 0
IsWithin vars c = All (λ l. l.var < vars) c

abbrev pub AreWithin : ℕ → List (List Lit) → Type 0
AreWithin vars clauses = All (IsWithin vars) clauses
