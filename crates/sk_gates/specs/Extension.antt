-- What it means that clauses grow by new variables which the old ones fix.
use Rattle.std.specs.Prelude.{◌≡◌, ℕ, ◌<◌, ◌≤◌, ◌++◌, Bool, List}
use Rattle.sk_clause.specs.declared.lit.Lit.{Lit}
use Rattle.sk_clause.specs.Meaning.{Meets}
use Rattle.sk_clause.specs.Problem.{Problem, AreWithin}

-- the first n variables have the same values
pub record AgreeBelow (n : ℕ) (u v : ℕ → Bool) : Type 0 where
  pub same : (i : ℕ) → i < n → u i ≡ v i

-- New has the variables and the clauses of old, and maybe others behind them, over its variables. Each assignment of the
-- old variables extends to the new ones so that it meets the added clauses: what the old clauses say of the old variables
-- is as it was.
pub record Continues (old new : Problem) : Type 0 where
  pub vars : old.vars ≤ new.vars
  pub added : List (List Lit)
  pub clauses : new.clauses ≡ old.clauses ++ added
  pub within : AreWithin new.vars added
  pub total : (v : ℕ → Bool) → (u : ℕ → Bool) × AgreeBelow old.vars v u × Meets u added

-- Behind the variables and clauses of old, new has others, over its variables. Each assignment of the old variables has
-- exactly one extension to the new variables that meets the added clauses, and every assignment that meets them is such
-- that Says is true of it.
pub record Adds (old new : Problem) (Says : (ℕ → Bool) → Type 0) : Type 0 where
  pub vars : old.vars ≤ new.vars
  pub added : List (List Lit)
  pub clauses : new.clauses ≡ old.clauses ++ added
  pub within : AreWithin new.vars added
  pub total : (v : ℕ → Bool) → (u : ℕ → Bool) × AgreeBelow old.vars v u × Meets u added
  pub unique : (u v : ℕ → Bool) → AgreeBelow old.vars u v → Meets u added → Meets v added → AgreeBelow new.vars u v
  pub says : (v : ℕ → Bool) → Meets v added → Says v
