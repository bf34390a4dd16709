-- What a trail has to do with the closure, and how propagation may change it.
use Rattle.std.specs.Prelude.{◌≡◌, ◌+◌, ◌≤◌, Bool, Option, List, Contains, length, take}
use Rattle.sk_clause.specs.declared.lit.Lit.{Lit}
use Rattle.sk_clause.specs.Meaning.{Closure, Falsifies}
use Rattle.sk_clause.specs.Values.{Holds, open_count}
use Rattle.sk_rup.specs.declared.trail.Trail.{Trail}

-- each true literal stands in the trail, which is no longer than there are variables with a value
pub record Covers (values : List (Option Bool)) (lits : List Lit) : Type 0 where
  pub there : (l : Lit) → Holds values l → Contains lits l
  pub room : length lits + open_count values ≤ length values

-- each literal of the trail is in the closure
pub record IsDerived (known : List (List Lit)) (c : List Lit) (lits : List Lit) : Type 0 where
  pub each : (l : Lit) → Contains lits l → Closure known c l

-- whichever clause is denied
pub record AreRoots (known : List (List Lit)) (lits : List Lit) : Type 0 where
  pub derived : (c : List Lit) → IsDerived known c lits

-- where these literals are in the closure, some clause is false in it
pub record Conflicts (known : List (List Lit)) (lits : List Lit) : Type 0 where
  pub falsifies : (c : List Lit) → IsDerived known c lits → Falsifies known c

-- literals may have been added
pub record Grows (old new : Trail) : Type 0 where
  pub long : length new.values.items ≡ length old.values.items
  pub covers : Covers new.values.items new.lits.items
  pub front : take (length old.lits.items) new.lits.items ≡ old.lits.items
  pub more : length old.lits.items ≤ length new.lits.items

-- literals may have been added that are in the closure where the old ones are
pub record Steps (known : List (List Lit)) (old new : Trail) : Type 0 where
  pub long : length new.values.items ≡ length old.values.items
  pub covers : Covers new.values.items new.lits.items
  pub front : take (length old.lits.items) new.lits.items ≡ old.lits.items
  pub more : length old.lits.items ≤ length new.lits.items
  pub fewer : open_count new.values.items ≤ open_count old.values.items
  pub keeps : (l : Lit) → Holds old.values.items l → Holds new.values.items l
  pub derives : (c : List Lit) → IsDerived known c old.lits.items → IsDerived known c new.lits.items
