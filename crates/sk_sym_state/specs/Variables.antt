-- What is done with the variables in scope.
use Rattle.std.specs.Prelude.{◌≡◌, ℕ, nat_le, if◌then◌else◌, List, [], ◌∷◌, ◌++◌, length, take, Some, slice_get}
use Rattle.sk_dag.specs.declared.shape.Shape.{Shape}
use Rattle.sk_dag.specs.Graph.{Graph}
use Rattle.sk_arr.specs.Shapes.{Stands}
use Rattle.sk_arr.specs.Answers.{IsCopy}
use Rattle.sk_sym_state.specs.declared.state.SymState.{SymState}

-- the state with these variables in scope
abbrev pub with_slots : SymState → List Shape → SymState
with_slots s slots = record s { frame = record s.frame { slots = slots } }

-- the variable is in scope, and this is what it holds, once more
pub record IsVariable (s : SymState) (slot : ℕ) (r : Shape) : Type 0 where
  pub held : Shape
  pub found : slice_get s.frame.slots slot ≡ Some held
  pub copy : (g : Graph) → Stands g held → IsCopy g held r

-- The variables once one comes into scope, in place of those from its slot on. Where its slot is past them, they stay: it
-- stands among those of which nothing is said.
abbrev pub declared : List Shape → ℕ → Shape → List Shape
declared slots slot r = if nat_le slot (length slots) then take slot slots ++ r ∷ [] else slots

pub record IsDeclared (old new : SymState) (slot : ℕ) (r : Shape) : Type 0 where
  pub now : new ≡ with_slots old (declared old.frame.slots slot r)
