-- What a round of the search does.
use Rattle.std.specs.Prelude.{◌≡◌, ℕ, ◌+◌, ◌<◌, ◌≤◌, ◌++◌, Bool, true, Option, List, [], ◌∷◌, Contains, length, take}
use Rattle.std.specs.List.{slice_index_or}
use Rattle.sk_clause.specs.declared.lit.Lit.{Lit}
use Rattle.sk_clause.specs.Meaning.{Falsifies, IsConsistent, Includes}
use Rattle.sk_clause.specs.Problem.{IsWithin}
use Rattle.sk_clause.specs.Values.{Holds, IsOpen}
use Rattle.sk_sat.specs.declared.trail.Trail.{Trail}
use Rattle.sk_sat.specs.declared.settle.Step.{Step}
use Rattle.sk_sat.specs.declared.settle.Step.TheVariants.{Learnt as Teaches, Forced, Refuted as Ends, Again}
use Rattle.sk_sat.specs.declared.round.Round.{Round}
use Rattle.sk_sat.specs.declared.round.Round.TheVariants.{Learnt, Moved, Full, Refuted}
use Rattle.sk_sat.specs.Trail.{IsTrail, progress}
use Rattle.sk_sat.specs.Analysis.{level_at, IsFalsified}

-- a clause that follows, added to both lists
pub record Adds (known known' fresh fresh' : List (List Lit)) (vars : ℕ) (c : List Lit) : Type 0 where
  pub pushed : known' ≡ known ++ c ∷ []
  pub kept : fresh' ≡ fresh ++ c ∷ []
  pub follows : Falsifies known c
  pub consistent : IsConsistent c
  pub within : IsWithin vars c

-- a conflict's literal of the last level
pub record IsDeep (known : List (List Lit)) (level : List ℕ) (depth i : ℕ) : Type 0 where
  pub one : (m : Lit) × Contains (slice_index_or known i []) m × (level_at level m ≡ depth)

-- back to a level and one literal more
pub record StepsBack (old new : Trail) : Type 0 where
  pub back : ℕ
  pub less : back < length old.lims.items
  pub lims : new.lims.items ≡ take back old.lims.items
  pub lits : length new.lits.items ≡ slice_index_or old.lims.items back 0 + 1
  pub long : length new.values.items ≡ length old.values.items

-- the clause includes no known one
pub record IsUnlike (known : List (List Lit)) (c : List Lit) : Type 0 where
  pub apart : (d : List Lit) → Contains known d → Includes c d → ⊥

-- known clause j is included in the clause
pub record IsInside (known : List (List Lit)) (c : List Lit) (j : ℕ) : Type 0 where
  pub there : j < length known
  pub each : Includes c (slice_index_or known j [])

-- a lesson was added; where repeats are not wanted, it includes no known clause
pub record Learns (strict : Bool) (known known' fresh fresh' : List (List Lit)) (old new : Trail) : Type 0 where
  pub clause : List Lit
  pub adds : Adds known known' fresh fresh' (length old.values.items) clause
  pub unlike : strict ≡ true → IsUnlike known clause
  pub trail : IsTrail known' new
  pub steps : StepsBack old new

-- back to a level, or at the same one
pub record IsCut (old new : Trail) : Type 0 where
  pub depth : ℕ
  pub inside : depth ≤ length old.lims.items
  pub lims : new.lims.items ≡ take depth old.lims.items
  pub long : length new.values.items ≡ length old.values.items

-- back to a level where known clause j is false
pub record FallsBack (known : List (List Lit)) (j : ℕ) (old new : Trail) : Type 0 where
  pub trail : IsTrail known new
  pub conflict : IsFalsified known new.values.items j
  pub cut : IsCut old new
  pub less : length new.lims.items < length old.lims.items

-- back to a level where a known clause forces a literal
pub record StepsOn (known : List (List Lit)) (old new : Trail) : Type 0 where
  pub trail : IsTrail known new
  pub steps : StepsBack old new

-- the trail is right, over as many variables as before
pub record Stands (known : List (List Lit)) (old new : Trail) : Type 0 where
  pub trail : IsTrail known new
  pub long : length new.values.items ≡ length old.values.items

-- what dealing with one conflict comes to
abbrev pub IsStep : Bool → List (List Lit) → List (List Lit) → List (List Lit) → List (List Lit) → Trail → Trail → Step → Type 0
IsStep strict known known' fresh fresh' old new Teaches = Learns strict known known' fresh fresh' old new
IsStep strict known known' fresh fresh' old new Forced = (known' ≡ known) × (fresh' ≡ fresh) × StepsOn known old new
IsStep strict known known' fresh fresh' old new Ends = (known' ≡ known) × (fresh' ≡ fresh) × Falsifies known [] × Stands known' old new
IsStep strict known known' fresh fresh' old new (Again j) = (known' ≡ known) × (fresh' ≡ fresh) × FallsBack known j old new

-- each clause has a true literal
pub record IsMet (known : List (List Lit)) (values : List (Option Bool)) : Type 0 where
  pub each : (c : List Lit) → Contains known c → (m : Lit) × Contains c m × Holds values m

pub record GoesOn (known : List (List Lit)) (old new : Trail) : Type 0 where
  pub trail : IsTrail known new
  pub long : length new.values.items ≡ length old.values.items
  pub more : progress old < progress new

abbrev pub IsRound : Bool → List (List Lit) → List (List Lit) → List (List Lit) → List (List Lit) → Trail → Trail → Round → Type 0
IsRound strict known known' fresh fresh' old new Learnt = ((c : List Lit) × Adds known known' fresh fresh' (length old.values.items) c × (strict ≡ true → IsUnlike known c)) × GoesOn known' old new
IsRound strict known known' fresh fresh' old new Moved = (known' ≡ known) × (fresh' ≡ fresh) × GoesOn known' old new
IsRound strict known known' fresh fresh' old new Full = (known' ≡ known) × (fresh' ≡ fresh) × IsMet known new.values.items × Stands known' old new
IsRound strict known known' fresh fresh' old new Refuted = (known' ≡ known) × (fresh' ≡ fresh) × Falsifies known [] × Stands known' old new

-- the deepest level of the literals of clause i
pub record IsConflictDepth (known : List (List Lit)) (t : Trail) (i depth : ℕ) : Type 0 where
  pub most : (m : Lit) → Contains (slice_index_or known i []) m → level_at t.level.items m ≤ depth
  pub inside : depth ≤ length t.lims.items
  pub deep : 0 < depth → IsDeep known t.level.items depth i

-- its variable is there and has no value
pub record IsFree (values : List (Option Bool)) (l : Lit) : Type 0 where
  pub within : l.var < length values
  pub vacant : IsOpen values l
