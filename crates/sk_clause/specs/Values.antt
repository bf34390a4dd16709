-- The values that some variables have, and what they make of a literal and of a clause.
use Rattle.std.specs.Prelude.{◌≡◌, ◌≢◌, ℕ, ◌+◌, Bool, true, false, not, if◌then◌else◌, Option, Some, None, List, [], ◌∷◌, Contains}
use Rattle.std.specs.List.{slice_index_or, slice_set}
use Rattle.std.proofs.Common.{◌⊎◌}
use Rattle.sk_clause.specs.declared.lit.Lit.{Lit}

-- what a variable's value makes of its literal
abbrev pub signed : Bool → Option Bool → Option Bool
signed neg None = None
signed neg (Some b) = Some (if neg then not b else b)

-- a literal's value, if its variable has one
abbrev pub value_of : List (Option Bool) → Lit → Option Bool
value_of values l = signed l.neg (slice_index_or values l.var None)

abbrev pub Holds : List (Option Bool) → Lit → Type 0
Holds values l = value_of values l ≡ Some true

abbrev pub Fails : List (Option Bool) → Lit → Type 0
Fails values l = value_of values l ≡ Some false

abbrev pub IsOpen : List (Option Bool) → Lit → Type 0
IsOpen values l = value_of values l ≡ None

-- the values with a literal made true
abbrev pub assigned : List (Option Bool) → Lit → List (Option Bool)
assigned values l = slice_set values l.var (Some (not l.neg))

-- how many variables have no value
abbrev pub open_count : List (Option Bool) → ℕ
open_count [] = 0
open_count (None ∷ vs) = 1 + open_count vs
open_count (Some b ∷ vs) = open_count vs

-- a true literal, or two with no value
abbrev pub IsSettled : List (Option Bool) → List Lit → Type 0
IsSettled values c =
    ((m : Lit) × Contains c m × Holds values m)
    ⊎ ((a : Lit) × (b : Lit) × Contains c a × Contains c b × (a ≢ b) × IsOpen values a × IsOpen values b)

-- the clause's only literal that isn't false is l, which has no value
pub record LeavesOne (values : List (Option Bool)) (c : List Lit) (l : Lit) : Type 0 where
  pub there : Contains c l
  pub vacant : IsOpen values l
  pub others : (m : Lit) → Contains c m → m ≢ l → Fails values m
