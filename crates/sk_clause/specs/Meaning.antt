-- What clauses mean, and what follows from them by reverse unit propagation: a clause follows where denying each of its
-- literals, and drawing each conclusion that some clause with one literal left forces, ends in a contradiction.
-- Clauses are read as sets of literals.
use Rattle.std.specs.Prelude.{◌≡◌, ◌≢◌, ℕ, ◌<◌, ◌++◌, Bool, true, false, not, if◌then◌else◌, List, [], ◌∷◌, Contains, length, take}
use Rattle.std.specs.List.{list_any, slice_index_or}
use Rattle.std.proofs.Common.{◌⊎◌}
use Rattle.sk_clause.specs.declared.lit.Lit.{Lit}

abbrev pub Clause : Type 0
Clause = List Lit

-- the literal that is true where l is false
abbrev pub negated : Lit → Lit
negated l = record { var = l.var; neg = not l.neg }

-- whether the values of the variables make a literal true
abbrev pub lit_true : (ℕ → Bool) → Lit → Bool
lit_true v l = if l.neg then not (v l.var) else v l.var

-- whether they make some literal of a clause true
abbrev pub clause_true : (ℕ → Bool) → List Lit → Bool
clause_true v c = list_any (lit_true v) c

-- the values that a list gives; a variable past its end is false
abbrev pub valuation : List Bool → ℕ → Bool
valuation bits v = slice_index_or bits v false

-- the values make each clause true
abbrev pub Meets : (ℕ → Bool) → List (List Lit) → Type 0
Meets v clauses = (c : List Lit) → Contains clauses c → clause_true v c ≡ true

-- The least set of literals that has the negation of each literal of c and, with each clause all of whose literals
-- but one are negated in the set, that one literal.
pub data Closure (clauses : List (List Lit)) (c : List Lit) : Lit → Type 0 where
  denied : {l : Lit} → Contains c (negated l) → Closure clauses c l
  forced : {l : Lit} (d : List Lit) → Contains clauses d → Contains d l → ((m : Lit) → Contains d m → m ≢ l → Closure clauses c (negated m)) → Closure clauses c l

-- the closure has a literal and its negation
abbrev pub Clashes : List (List Lit) → List Lit → Type 0
Clashes clauses c = (l : Lit) × Closure clauses c l × Closure clauses c (negated l)

-- each literal of some clause is negated in the closure
abbrev pub Falsifies : List (List Lit) → List Lit → Type 0
Falsifies clauses c = (d : List Lit) × Contains clauses d × ((m : Lit) → Contains d m → Closure clauses c (negated m))

-- c follows by propagation
abbrev pub Follows : List (List Lit) → List Lit → Type 0
Follows clauses c = Clashes clauses c ⊎ Falsifies clauses c

-- each clause of the log follows from the clauses and what stands before it in the log
abbrev pub EachFollows : List (List Lit) → List (List Lit) → Type 0
EachFollows clauses log = (i : ℕ) → i < length log → Follows (clauses ++ take i log) (slice_index_or log i [])

-- the log's last clause is empty
abbrev pub EndsEmpty : List (List Lit) → Type 0
EndsEmpty log = (front : List (List Lit)) × (log ≡ front ++ [] ∷ [])

-- the log shows that no values make each clause true
abbrev pub Refutes : List (List Lit) → List (List Lit) → Type 0
Refutes clauses log = EachFollows clauses log × EndsEmpty log

-- no literal and its negation
pub record IsConsistent (c : List Lit) : Type 0 where
  pub apart : (l : Lit) → Contains c l → Contains c (negated l) → ⊥

-- each literal of d is one of c
abbrev pub Includes : List Lit → List Lit → Type 0
Includes c d = (m : Lit) → Contains d m → Contains c m

-- no clause of the log includes one of the clauses, or one that stands before it in the log
abbrev pub NoneIncludes : List (List Lit) → List (List Lit) → Type 0
NoneIncludes clauses log = (i : ℕ) → i < length log → (d : List Lit) → Contains (clauses ++ take i log) d → Includes (slice_index_or log i []) d → ⊥
