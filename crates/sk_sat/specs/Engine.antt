-- What a solver keeps between calls.
use Rattle.std.specs.Prelude.{◌≡◌, ℕ, ◌≤◌, ◌++◌, List, [], Contains, length, take}
use Rattle.sk_clause.specs.declared.lit.Lit.{Lit}
use Rattle.sk_clause.specs.Problem.{AreWithin}
use Rattle.sk_sat.specs.Trail.{IsTrail}
use Rattle.sk_sat.specs.declared.engine.Engine.{Engine}

-- a search can begin: no level is open, and the clauses are over the variables of the trail
pub record IsReady (e : Engine) : Type 0 where
  pub on_trail : IsTrail e.known e.trail
  pub at_start : e.trail.lims.items ≡ []
  pub within : AreWithin (length e.trail.values.items) e.known

-- the lists have the same clauses, in whatever order
pub record HasSame (cs ds : List (List Lit)) : Type 0 where
  pub into : (c : List Lit) → Contains cs c → Contains ds c
  pub back : (c : List Lit) → Contains ds c → Contains cs c

-- it has the clauses that were learnt and the first so many of the added ones, over at most so many variables
pub record Serves (vars : ℕ) (added learnt : List (List Lit)) (e : Engine) : Type 0 where
  pub ready : IsReady e
  pub long : length e.trail.values.items ≤ vars
  pub taken : e.taken ≤ length added
  pub same : HasSame e.known (take e.taken added ++ learnt)

-- it has all clauses and variables
pub record IsCurrent (vars : ℕ) (added learnt : List (List Lit)) (e : Engine) : Type 0 where
  pub ready : IsReady e
  pub long : length e.trail.values.items ≡ vars
  pub taken : e.taken ≡ length added
  pub same : HasSame e.known (added ++ learnt)
