-- How marks grow while a lesson is made shorter.
use Rattle.std.specs.Prelude.{◌≡◌, ℕ, Bool, true, false, Option, List, Contains}
use Rattle.std.specs.List.{slice_index_or}
use Rattle.std.proofs.Common.{◌⊎◌}
use Rattle.sk_clause.specs.declared.lit.Lit.{Lit}
use Rattle.sk_clause.specs.Values.{Fails}
use Rattle.sk_sat.specs.Analysis.{is_open, IsImplied}

-- marks that grew: each one more is of a false literal that marked ones force, and stands in the list
pub record MarksMore (known : List (List Lit)) (values : List (Option Bool)) (reason level : List ℕ) (lits : List Lit) (kept : List Bool) (extra : List Lit) (kept' : List Bool) (extra' : List Lit) : Type 0 where
  pub more : (v : ℕ) → slice_index_or kept v false ≡ true → slice_index_or kept' v false ≡ true
  pub forced : (m : Lit) → Fails values m → is_open kept' m ≡ true → (is_open kept m ≡ true) ⊎ IsImplied known reason level lits kept' m
  pub only : (v : ℕ) → slice_index_or kept' v false ≡ true → (slice_index_or kept v false ≡ true) ⊎ ((m : Lit) × Contains extra' m × (m.var ≡ v))
  pub puts : (m : Lit) → Contains extra m → Contains extra' m
