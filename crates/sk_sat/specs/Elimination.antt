-- Resolvents, and the clauses that an elimination adds.
use Rattle.std.specs.Prelude.{◌≡◌, ◌≢◌, ℕ, ◌++◌, List, All, Contains}
use Rattle.sk_clause.specs.declared.lit.Lit.{Lit}
use Rattle.sk_clause.specs.Meaning.{Falsifies, EachFollows, IsConsistent}
use Rattle.sk_clause.specs.Problem.{IsWithin, AreWithin}

-- each literal of the clause but p is put out
pub record IsRest (c : List Lit) (p : Lit) (out : List Lit) : Type 0 where
  pub each : (m : Lit) → Contains c m → m ≢ p → Contains out m

-- literals of the clause may be put out, none of them beside its negation
pub record PutsOut (c out out' : List Lit) : Type 0 where
  pub keeps : (m : Lit) → Contains out m → Contains out' m
  pub consistent : IsConsistent out'
  pub within : (vars : ℕ) → IsWithin vars c → IsWithin vars out → IsWithin vars out'

-- a clause that follows, with no literal beside its negation, and over no more variables
pub record IsResolvent (known : List (List Lit)) (c : List Lit) : Type 0 where
  pub follows : Falsifies known c
  pub consistent : IsConsistent c
  pub within : (vars : ℕ) → AreWithin vars known → IsWithin vars c

-- clauses that follow one after another, over no more variables, added to both lists
pub record Gathers (known known' fresh fresh' : List (List Lit)) : Type 0 where
  pub more : List (List Lit)
  pub pushed : known' ≡ known ++ more
  pub kept : fresh' ≡ fresh ++ more
  pub each : EachFollows known more
  pub consistent : All IsConsistent more
  pub within : (vars : ℕ) → AreWithin vars known → AreWithin vars more
