-- Known clauses by the variable of their first literal.
use Rattle.std.specs.Prelude.{◌≡◌, ◌≢◌, ℕ, ◌<◌, Bool, false, Option, Some, None, List, [], ◌∷◌, length}
use Rattle.std.specs.List.{slice_index_or}
use Rattle.sk_clause.specs.declared.lit.Lit.{Lit}
use Rattle.sk_clause.specs.Meaning.{Includes}

-- the variable of a clause's first literal
abbrev pub first_var : List Lit → Option ℕ
first_var [] = None
first_var (l ∷ c) = Some l.var

-- Chains of clauses that begin with the same variable: the number that `heads` has for it is past all of them, and the
-- number that `links` has for one of them is past all before it. None is empty, unless `blank` says so.
pub record IsIndexed (known : List (List Lit)) (heads links : List ℕ) (blank : Bool) : Type 0 where
  pub long : length links ≡ length known
  pub head : (i v : ℕ) → i < length known → first_var (slice_index_or known i []) ≡ Some v → i < slice_index_or heads v 0
  pub link : (i j v : ℕ) → i < j → j < length known → first_var (slice_index_or known i []) ≡ Some v → first_var (slice_index_or known j []) ≡ Some v → i < slice_index_or links j 0
  pub filled : blank ≡ false → (i : ℕ) → i < length known → first_var (slice_index_or known i []) ≢ None

-- the clause includes no known one that begins with the variable
pub record IsApart (known : List (List Lit)) (c : List Lit) (v : ℕ) : Type 0 where
  pub each : (i : ℕ) → i < length known → first_var (slice_index_or known i []) ≡ Some v → Includes c (slice_index_or known i []) → ⊥
