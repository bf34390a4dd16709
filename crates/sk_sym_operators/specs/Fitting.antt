-- A list of shapes as so many bits: what is no bit is false, and so is what is wanting at the end.
use Rattle.std.specs.Prelude.{◌≡◌, ◌≤◌, ◌<◌, ℕ, zero, suc, Bool, false, List, [], ◌∷◌, ◌++◌, length, Option, Some, None, slice_get}
use Rattle.sk_dag.specs.declared.env.Env.{Env}
use Rattle.sk_dag.specs.declared.node.BoolId.{BoolId}
use Rattle.sk_dag.specs.declared.shape.Shape.{Shape}
use Rattle.sk_dag.specs.declared.shape.Shape.TheVariants as shape
use Rattle.sk_dag.specs.declared.shape.Shape.TheOpen.{Shape-F, Bit}
use Rattle.sk_dag.specs.declared.shape.Shape.TheViews.{out-Shape}
use Rattle.sk_dag.specs.Graph.{Graph, Grows}
use Rattle.sk_arr.specs.Shapes.{AllStand}
use Rattle.sk_arr.specs.Bits.{AreBits}
use Rattle.sk_sym_operators.specs.Worth.{bits_in}

abbrev pub node_in : BoolId → Shape-F Shape → BoolId
node_in nought (Bit a) = a
node_in nought _ = nought

-- the node of a shape, where there is one that is a bit
abbrev pub node_at : BoolId → Option Shape → BoolId
node_at nought None = nought
node_at nought (Some s) = node_in nought (out-Shape s)

-- those of the first so many places of a list
abbrev pub nodes_of : BoolId → List Shape → ℕ → List Shape
nodes_of nought list zero = []
nodes_of nought list (suc n) = nodes_of nought list n ++ shape.Bit (node_at nought (slice_get list n)) ∷ []

-- so many bits: the first ones of these, and false where there is none
abbrev pub fit : ℕ → List Bool → List Bool
fit zero bs = []
fit (suc n) [] = false ∷ fit n []
fit (suc n) (b ∷ bs) = b ∷ fit n bs

-- shapes of so many bits, of which the first ones are the bits that these shapes are
pub record AreFitted (g : Graph) (list : List Shape) (count : ℕ) (made : List Shape) : Type 0 where
  pub stand : AllStand g made
  pub bits : AreBits made
  pub long : length made ≡ count
  pub value : (h : Graph) → Grows g h → (e : Env) → bits_in h e made ≡ fit count (bits_in h e list)

-- the smaller of two numbers
pub record IsSmaller (x y n : ℕ) : Type 0 where
  pub first : n ≤ x
  pub second : n ≤ y
  pub one : (n < x) → (n < y) → ⊥
