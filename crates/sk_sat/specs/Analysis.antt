-- What the analysis of a conflict has covered so far.
use Rattle.std.specs.Prelude.{◌≡◌, ◌≢◌, ℕ, ◌+◌, ◌<◌, ◌≤◌, Bool, true, false, Option, List, [], ◌∷◌, Contains, length, take}
use Rattle.std.specs.List.{slice_index_or}
use Rattle.std.proofs.Common.{◌⊎◌}
use Rattle.sk_clause.specs.declared.lit.Lit.{Lit}
use Rattle.sk_clause.specs.Meaning.{negated, Closure, Falsifies}
use Rattle.sk_sat.specs.Trail.{lit_at, IsReason}
use Rattle.sk_clause.specs.Values.{Holds, Fails}

abbrev pub level_at : List ℕ → Lit → ℕ
level_at level l = slice_index_or level l.var 0

abbrev pub is_open : List Bool → Lit → Bool
is_open marks l = slice_index_or marks l.var false

-- how many are marked
abbrev pub marked_count : List Bool → ℕ
marked_count [] = 0
marked_count (true ∷ ms) = 1 + marked_count ms
marked_count (false ∷ ms) = marked_count ms

-- a false literal is dealt with: it is marked to be resolved away, stands in the learnt clause, or is false at level 0
abbrev pub IsCovered : List ℕ → List Bool → List Lit → Lit → Type 0
IsCovered level marks out m = (is_open marks m ≡ true) ⊎ Contains out m ⊎ (level_at level m ≡ 0)

-- a literal of the clause that is false
pub record IsFalseIn (values : List (Option Bool)) (c : List Lit) (m : Lit) : Type 0 where
  pub inside : Contains c m
  pub fails : Fails values m

-- the false literals of a clause were dealt with, and nothing else was marked or put out
pub record Absorbs (values : List (Option Bool)) (level : List ℕ) (depth : ℕ) (c : List Lit) (marks : List Bool) (out : List Lit) (marks' : List Bool) (out' : List Lit) : Type 0 where
  pub covers : (m : Lit) → IsFalseIn values c m → IsCovered level marks' out' m
  pub keeps : (m : Lit) → IsCovered level marks out m → IsCovered level marks' out' m
  pub marked : (v : ℕ) → slice_index_or marks' v false ≡ true → (slice_index_or marks v false ≡ true) ⊎ ((m : Lit) × IsFalseIn values c m × (m.var ≡ v) × (level_at level m ≡ depth))
  pub put : (m : Lit) → Contains out' m → Contains out m ⊎ (IsFalseIn values c m × (level_at level m ≢ depth))

-- each variable that is marked is that of a literal put out
pub record IsOnly (kept : List Bool) (out : List Lit) : Type 0 where
  pub each : (v : ℕ) → slice_index_or kept v false ≡ true → (m : Lit) × Contains out m × (m.var ≡ v)

-- what is marked as put out is put out
pub record IsKept (values : List (Option Bool)) (kept : List Bool) (out : List Lit) : Type 0 where
  pub there : (m : Lit) → Fails values m → is_open kept m ≡ true → Contains out m
  pub only : IsOnly kept out

-- nothing is marked
pub record IsClean (marks : List Bool) : Type 0 where
  pub none : (v : ℕ) → slice_index_or marks v false ≡ true → ⊥

-- each literal of the clause with another variable than l is of level 0, or marked
pub record AreCovered (level : List ℕ) (kept : List Bool) (c : List Lit) (l : Lit) : Type 0 where
  pub each : (m : Lit) → Contains c m → m.var ≢ l.var → (level_at level m ≡ 0) ⊎ (is_open kept m ≡ true)

-- a reason forces the negation of l from literals that are of level 0 or marked
pub record IsImplied (known : List (List Lit)) (reason level : List ℕ) (lits : List Lit) (kept : List Bool) (l : Lit) : Type 0 where
  pub why : (i : ℕ) → i < length lits → lit_at lits i ≡ negated l → IsReason known (slice_index_or reason l.var 0) (take i lits) (lit_at lits i)
  pub covered : AreCovered level kept (slice_index_or known (slice_index_or reason l.var 0) []) l

-- clause i is false
pub record IsFalsified (known : List (List Lit)) (values : List (Option Bool)) (i : ℕ) : Type 0 where
  pub there : i < length known
  pub each : (m : Lit) → Contains (slice_index_or known i []) m → Fails values m

-- The clause follows once the literals that are marked or put out are negated in it. Each marked literal stands before place p, at this depth.
pub record Pending (known : List (List Lit)) (values : List (Option Bool)) (level : List ℕ) (lits : List Lit) (depth p : ℕ) (marks : List Bool) (out : List Lit) : Type 0 where
  pub implied : (c : List Lit) → ((m : Lit) → Fails values m → IsCovered level marks out m → Closure known c (negated m)) → Falsifies known c
  pub placed : (v : ℕ) → slice_index_or marks v false ≡ true → (i : ℕ) × (i < p) × (i < length lits) × ((lit_at lits i).var ≡ v)
  pub leveled : (v : ℕ) → slice_index_or marks v false ≡ true → slice_index_or level v 0 ≡ depth
  pub outs : (m : Lit) → Contains out m → Fails values m × (level_at level m < depth)

-- a true literal of this depth: the clause follows that has its negation, and the negations of the literals put out in its closure
pub record IsTurn (known : List (List Lit)) (values : List (Option Bool)) (level : List ℕ) (depth : ℕ) (out : List Lit) (u : Lit) : Type 0 where
  pub holds : Holds values u
  pub deep : level_at level u ≡ depth
  pub implied : (c : List Lit) → Contains c (negated u) → ((m : Lit) → Contains out m → Closure known c (negated m)) → Falsifies known c
  pub outs : (m : Lit) → Contains out m → Fails values m × (level_at level m < depth)

-- A clause that follows, and is false: one literal at this depth, and the others no deeper than `back`.
pub record IsLesson (known : List (List Lit)) (values : List (Option Bool)) (level : List ℕ) (depth : ℕ) (c : List Lit) (turn : Lit) (back : ℕ) : Type 0 where
  pub follows : Falsifies known c
  pub has : Contains c turn
  pub fails : Fails values turn
  pub deep : level_at level turn ≡ depth
  pub others : (m : Lit) → Contains c m → m ≢ turn → Fails values m × (level_at level m ≤ back)
  pub less : back < depth
