-- What holds of the literals that are true so far, in the order in which they became so.
use Rattle.std.specs.Prelude.{◌≡◌, ◌≢◌, ℕ, suc, ◌+◌, ◌-◌, ◌*◌, ◌^◌, ◌<◌, ◌≤◌, Bool, false, Option, List, [], ◌∷◌, Contains, length, take}
use Rattle.std.specs.List.{slice_index_or}
use Rattle.sk_clause.specs.declared.lit.Lit.{Lit}
use Rattle.sk_clause.specs.Meaning.{negated}
use Rattle.sk_clause.specs.Values.{Holds, Fails, open_count}
use Rattle.sk_sat.specs.declared.trail.Trail.{Trail}

abbrev pub lit_at : List Lit → ℕ → Lit
lit_at ls i = slice_index_or ls i (record { var = 0; neg = false })

-- the literals are the true ones, each once
pub record Agrees (values : List (Option Bool)) (lits : List Lit) : Type 0 where
  pub holds : (i : ℕ) → i < length lits → Holds values (lit_at lits i)
  pub covers : (l : Lit) → Holds values l → Contains lits l
  pub distinct : (i k : ℕ) → i < k → k < length lits → (lit_at lits i).var ≢ (lit_at lits k).var
  pub within : (i : ℕ) → i < length lits → (lit_at lits i).var < length values
  pub total : length lits + open_count values ≡ length values

-- Level j + 1 begins at place lims[j], with a decision.
pub record IsLeveled (level : List ℕ) (lits : List Lit) (lims : List ℕ) : Type 0 where
  pub inside : (j : ℕ) → j < length lims → slice_index_or lims j 0 < length lits
  pub rises : (j k : ℕ) → j < k → k < length lims → slice_index_or lims j 0 < slice_index_or lims k 0
  pub low : (i j : ℕ) → i < length lits → j < length lims → slice_index_or level (lit_at lits i).var 0 ≤ j → i < slice_index_or lims j 0
  pub high : (i j : ℕ) → i < length lits → j < length lims → i < slice_index_or lims j 0 → slice_index_or level (lit_at lits i).var 0 ≤ j
  pub most : (i : ℕ) → i < length lits → slice_index_or level (lit_at lits i).var 0 ≤ length lims

-- clause r has the literal, and each of its other literals is negated before it
pub record IsReason (known : List (List Lit)) (r : ℕ) (before : List Lit) (l : Lit) : Type 0 where
  pub there : r < length known
  pub has : Contains (slice_index_or known r []) l
  pub others : (m : Lit) → Contains (slice_index_or known r []) m → m ≢ l → Contains before (negated m)

-- each literal that isn't a decision has a reason
abbrev pub AreReasoned : List (List Lit) → List ℕ → List Lit → List ℕ → Type 0
AreReasoned known reason lits lims =
    (i : ℕ) → i < length lits → ((j : ℕ) → j < length lims → slice_index_or lims j 0 ≢ i) → IsReason known (slice_index_or reason (lit_at lits i).var 0) (take i lits) (lit_at lits i)

pub record IsTrailOf (known : List (List Lit)) (values : List (Option Bool)) (level reason : List ℕ) (lits : List Lit) (lims : List ℕ) : Type 0 where
  pub level_long : length level ≡ length values
  pub reason_long : length reason ≡ length values
  pub agrees : Agrees values lits
  pub leveled : IsLeveled level lits lims
  pub reasoned : AreReasoned known reason lits lims

abbrev pub IsTrail : List (List Lit) → Trail → Type 0
IsTrail known t = IsTrailOf known t.values.items t.level.items t.reason.items t.lits.items t.lims.items

-- more literals may be true, at the same levels
pub record Extends (old new : Trail) : Type 0 where
  pub lims : new.lims.items ≡ old.lims.items
  pub long : length new.values.items ≡ length old.values.items
  pub lits : length old.lits.items ≤ length new.lits.items

-- back to a level, and what was false no deeper is still false
pub record IsBack (depth : ℕ) (old new : Trail) : Type 0 where
  pub lims : new.lims.items ≡ take depth old.lims.items
  pub long : length new.values.items ≡ length old.values.items
  pub same_level : new.level.items ≡ old.level.items
  pub kept : (m : Lit) → Fails old.values.items m → slice_index_or old.level.items m.var 0 ≤ depth → Fails new.values.items m

-- how far the search has come: a digit for each level, level 0 first, which counts the literals of the level
abbrev pub number : ℕ → ℕ → ℕ → List ℕ → ℕ → ℕ
number base d from [] len = (len - from) * base ^ d
number base d from (x ∷ xs) len = (x - from) * base ^ d + number base (d - 1) x xs len

abbrev pub progress : Trail → ℕ
progress t = number (length t.values.items + 1) (length t.values.items) 0 t.lims.items (length t.lits.items)

-- how much is left to do before the next restart
abbrev pub work : Trail → ℕ
work t = (length t.values.items + 1) ^ (suc (length t.values.items)) - progress t

-- how much is left to do where so many restarts may still come
abbrev pub effort : ℕ → Trail → ℕ
effort left t = left * suc ((length t.values.items + 1) ^ (suc (length t.values.items))) + work t
