-- How far a text has been read.
use Rattle.std.specs.Prelude.{◌≡◌, ℕ, ◌++◌, Option, List, map}
use Rattle.sk_clause.specs.declared.lit.Lit.{Lit}
use Rattle.dimacs_text.specs.Formula.{Text, Spells, numbers, lit_number, IsAllowed, AreAllowed}

-- What has been read: the words so far write whole clauses, and then the literals of one that is begun.
pub record IsRead (limit : Option ℕ) (ws : List Text) (done : List (List Lit)) (begun : List Lit) : Type 0 where
  pub spelt : Spells ws (numbers done ++ map lit_number begun)
  pub done_allowed : AreAllowed limit done
  pub begun_allowed : IsAllowed limit begun

-- no clauses begin with these words
pub record IsStuck (limit : Option ℕ) (ws : List Text) : Type 0 where
  pub never : (more : List Text) (cs : List (List Lit)) → AreAllowed limit cs → Spells (ws ++ more) (numbers cs) → ⊥
