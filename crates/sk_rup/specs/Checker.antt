-- What a checker has, and what its steps say.
use Rattle.std.specs.Prelude.{◌≡◌, Bool, true, false, List, Contains, All, length}
use Rattle.std.proofs.Common.{◌⊎◌}
use Rattle.sk_clause.specs.declared.lit.Lit.{Lit}
use Rattle.sk_clause.specs.Problem.{AreWithin}
use Rattle.sk_clause.specs.Meaning.{negated, Falsifies}
use Rattle.sk_clause.specs.Values.{Holds, IsSettled}
use Rattle.sk_rup.specs.Steps.{Covers, AreRoots, Conflicts}
use Rattle.sk_rup.specs.declared.trail.Trail.{Trail}
use Rattle.sk_rup.specs.declared.checker.Checker.{Checker}

-- each literal of the clause is false, and nothing else was made so
pub record Denies (c : List Lit) (old new : Trail) : Type 0 where
  pub each : (m : Lit) → Contains c m → Holds new.values.items (negated m)
  pub only : (m : Lit) → Contains new.lits.items m → Contains old.lits.items m ⊎ Contains c (negated m)

-- a clause is false, or each is settled
abbrev pub IsComplete : List (List Lit) → Trail → Bool → Type 0
IsComplete known t true = Conflicts known t.lits.items
IsComplete known t false = All (IsSettled t.values.items) known

-- The trail has literals that follow from the known clauses alone; where `refuted`, so does the empty clause.
pub record IsReady (ch : Checker) : Type 0 where
  pub covers : Covers ch.trail.values.items ch.trail.lits.items
  pub within : AreWithin (length ch.trail.values.items) ch.known
  pub roots : AreRoots ch.known ch.trail.lits.items
  pub over : ch.refuted ≡ true → (c : List Lit) → Falsifies ch.known c
