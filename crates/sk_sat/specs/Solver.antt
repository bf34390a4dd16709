-- What a solver has, and what its answers say.
use Rattle.std.specs.Prelude.{◌≡◌, ℕ, ◌++◌, List, All, length, drop}
use Rattle.sk_clause.specs.declared.lit.Lit.{Lit}
use Rattle.sk_clause.specs.Meaning.{EachFollows, IsConsistent}
use Rattle.sk_clause.specs.Problem.{AreWithin}

-- a number of variables, the clauses that were added, and those that were learnt in all calls so far
pub record State : Type 0 where
  pub vars : ℕ
  pub added : List (List Lit)
  pub learnt : List (List Lit)

-- each learnt clause follows from the added ones and those learnt before it
pub record IsSound (vars : ℕ) (added learnt : List (List Lit)) : Type 0 where
  pub within : AreWithin vars added
  pub learnt_within : AreWithin vars learnt
  pub each : EachFollows added learnt
  pub consistent : All IsConsistent learnt

-- the clauses that one call has learnt
abbrev pub gained : State → State → List (List Lit)
gained old new = drop (length old.learnt) new.learnt

-- nothing but learnt clauses was gained, and each follows from the clauses that were kept before it
pub record Gains (old new : State) : Type 0 where
  pub vars : new.vars ≡ old.vars
  pub added : new.added ≡ old.added
  pub learnt : new.learnt ≡ old.learnt ++ gained old new
  pub each : EachFollows (old.added ++ old.learnt) (gained old new)

-- All that was learnt is sound, and is what was learnt before with more behind it, in a state with nothing else changed.
pub record Grows (vars : ℕ) (added learnt all : List (List Lit)) : Type 0 where
  pub sound : IsSound vars added all
  pub gains : Gains (record { vars = vars; added = added; learnt = learnt }) (record { vars = vars; added = added; learnt = all })
