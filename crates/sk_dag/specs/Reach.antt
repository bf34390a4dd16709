-- The nodes that a node stands on, and copies of nodes over other numbers.
use Rattle.std.specs.Prelude.{◌≡◌, ℕ, ◌<◌, Bool, true, List, [], ◌∷◌, Some, length, slice_get, slice_index, slice_set, fold, Contains, ◌↔◌, ⊤, ◌⊎◌, IsTrue}
use Rattle.sk_dag.specs.declared.env.Env.{Env}
use Rattle.sk_dag.specs.declared.node.BoolId.{BoolId}
use Rattle.sk_dag.specs.declared.node.WordId.{WordId}
use Rattle.sk_dag.specs.declared.node.CostId.{CostId}
use Rattle.sk_dag.specs.declared.node.Node.{Node}
use Rattle.sk_dag.specs.declared.node.Node.TheVariants.{Flag, Word, HoleBit, HoleWord, InputBit, InputWord, Not, And, Or, Xor, BoolMux, Mux, Add, Sub, Mul, Div, Rem, Lt, Eq, CostZero, CostAdd, CostLe}
use Rattle.sk_dag.specs.Graph.{Graph, Grows, HasSort, Sort}
use Rattle.sk_dag.specs.Eval.{value_at, graph_values}

-- the numbers of the nodes that a node names
abbrev pub children : Node → List ℕ
children (Flag b) = []
children (Word z) = []
children (HoleBit site k) = []
children (HoleWord site) = []
children (InputBit i) = []
children (InputWord i) = []
children (Not a) = a.index ∷ []
children (And a b) = a.index ∷ b.index ∷ []
children (Or a b) = a.index ∷ b.index ∷ []
children (Xor a b) = a.index ∷ b.index ∷ []
children (BoolMux c a b) = c.index ∷ a.index ∷ b.index ∷ []
children (Mux c a b) = c.index ∷ a.index ∷ b.index ∷ []
children (Add a b) = a.index ∷ b.index ∷ []
children (Sub a b) = a.index ∷ b.index ∷ []
children (Mul a b) = a.index ∷ b.index ∷ []
children (Div a b) = a.index ∷ b.index ∷ []
children (Rem a b) = a.index ∷ b.index ∷ []
children (Lt a b) = a.index ∷ b.index ∷ []
children (Eq a b) = a.index ∷ b.index ∷ []
children CostZero = []
children (CostAdd c g x) = c.index ∷ g.index ∷ x.index ∷ []
children (CostLe c limit) = c.index ∷ []

-- P holds of each
abbrev pub Each : (ℕ → Type 0) → List ℕ → Type 0
Each P [] = ⊤
Each P (i ∷ is) = P i × Each P is

-- the node with this number is one of the roots, or a child of one that stands below them
pub data Reaches (nodes : List Node) (roots : List BoolId) : ℕ → Type 0 where
  root : (r : BoolId) → Contains roots r → Reaches nodes roots r.index
  child : (i j : ℕ) (n : Node) → Reaches nodes roots i → slice_get nodes i ≡ Some n → Contains (children n) j → Reaches nodes roots j

-- the marks at the numbers of these are set
abbrev pub with_marks : {X : Type 0} → (X → ℕ) → List X → List Bool → List Bool
with_marks number xs marks = fold (λ ms x. slice_set ms (number x) true) marks xs

abbrev pub IsMarked : List Bool → ℕ → Type 0
IsMarked marks i = slice_get marks i ≡ Some true

-- marked are exactly the roots and the nodes below them
pub record MarksReached (nodes : List Node) (roots : List BoolId) (marks : List Bool) : Type 0 where
  pub length : length marks ≡ length nodes
  pub exact : (i : ℕ) → IsMarked marks i ↔ Reaches nodes roots i

-- there is a mark for each node, and the children of each marked node are marked
pub record IsClosed (nodes : List Node) (marks : List Bool) : Type 0 where
  pub length : length marks ≡ length nodes
  pub marked : (i : ℕ) (n : Node) → slice_get nodes i ≡ Some n → IsMarked marks i → Each (IsMarked marks) (children n)

-- the number that stands for a node
abbrev pub new_bool : List ℕ → BoolId → BoolId
new_bool numbers a = record { index = slice_index numbers a.index }

abbrev pub new_word : List ℕ → WordId → WordId
new_word numbers a = record { index = slice_index numbers a.index }

abbrev pub new_cost : List ℕ → CostId → CostId
new_cost numbers a = record { index = slice_index numbers a.index }

-- the same operator over the nodes that stand for its children
abbrev pub renumbered : List ℕ → Node → Node
renumbered m (Flag b) = Flag b
renumbered m (Word z) = Word z
renumbered m (HoleBit site k) = HoleBit site k
renumbered m (HoleWord site) = HoleWord site
renumbered m (InputBit i) = InputBit i
renumbered m (InputWord i) = InputWord i
renumbered m (Not a) = Not (new_bool m a)
renumbered m (And a b) = And (new_bool m a) (new_bool m b)
renumbered m (Or a b) = Or (new_bool m a) (new_bool m b)
renumbered m (Xor a b) = Xor (new_bool m a) (new_bool m b)
renumbered m (BoolMux c a b) = BoolMux (new_bool m c) (new_bool m a) (new_bool m b)
renumbered m (Mux c a b) = Mux (new_bool m c) (new_word m a) (new_word m b)
renumbered m (Add a b) = Add (new_word m a) (new_word m b)
renumbered m (Sub a b) = Sub (new_word m a) (new_word m b)
renumbered m (Mul a b) = Mul (new_word m a) (new_word m b)
renumbered m (Div a b) = Div (new_word m a) (new_word m b)
renumbered m (Rem a b) = Rem (new_word m a) (new_word m b)
renumbered m (Lt a b) = Lt (new_word m a) (new_word m b)
renumbered m (Eq a b) = Eq (new_word m a) (new_word m b)
renumbered m CostZero = CostZero
renumbered m (CostAdd c g x) = CostAdd (new_cost m c) (new_bool m g) (new_word m x)
renumbered m (CostLe c limit) = CostLe (new_cost m c) limit

-- node j of a graph stands for node i of another: it has its sort, and its value from now on
pub record StandsFor (from into : Graph) (i j : ℕ) : Type 0 where
  pub sorts : (s : Sort) → HasSort from.nodes i s → HasSort into.nodes j s
  pub value : (g : Graph) → Grows into g → (e : Env) → value_at (graph_values g e) j ≡ value_at (graph_values from e) i

-- for each marked node below number n the list has a number that stands for it
pub record StandForMarked (from into : Graph) (marks : List Bool) (numbers : List ℕ) (n : ℕ) : Type 0 where
  pub length : length numbers ≡ n
  pub each : (i : ℕ) → i < n → IsMarked marks i → StandsFor from into i (slice_index numbers i)

-- each node of the new graph is one of the old graph's; where the flag is set, one may be new, and has number i
pub record AddsAtMost (flag : Bool) (old new : Graph) (i : ℕ) : Type 0 where
  pub only : (k : ℕ) (m : Node) → slice_get new.nodes k ≡ Some m → (slice_get old.nodes k ≡ Some m) ⊎ (IsTrue flag × (k ≡ i))

-- for each marked node below number n the list has the number of its copy; children stand before their parents
pub record CopiesMarked (from into : Graph) (marks : List Bool) (numbers : List ℕ) (n : ℕ) : Type 0 where
  pub before : (i : ℕ) (m : Node) → i < n → slice_get from.nodes i ≡ Some m → Each (λ c. c < i) (children m)
  pub copies : (i : ℕ) (m : Node) → i < n → IsMarked marks i → slice_get from.nodes i ≡ Some m → slice_get into.nodes (slice_index numbers i) ≡ Some (renumbered numbers m)

-- each node of the new graph is one of the old graph's, or has the number that the list gives to a marked node below n
pub record OnlyMarked (old new : Graph) (marks : List Bool) (numbers : List ℕ) (n : ℕ) : Type 0 where
  pub each : (k : ℕ) (m : Node) → slice_get new.nodes k ≡ Some m → (slice_get old.nodes k ≡ Some m) ⊎ ((i : ℕ) × (i < n) × IsMarked marks i × (slice_index numbers i ≡ k))

-- the list names in the new graph a copy of each node of another graph that the roots stand on; all other nodes of
-- the new graph are those of the old one
pub record IsCopied (from old new : Graph) (roots : List BoolId) (numbers : List ℕ) : Type 0 where
  pub copies : (i : ℕ) (m : Node) → Reaches from.nodes roots i → slice_get from.nodes i ≡ Some m → slice_get new.nodes (slice_index numbers i) ≡ Some (renumbered numbers m)
  pub only : (k : ℕ) (m : Node) → slice_get new.nodes k ≡ Some m → (slice_get old.nodes k ≡ Some m) ⊎ ((i : ℕ) × Reaches from.nodes roots i × (slice_index numbers i ≡ k))

-- the new graph is the old one with copies of what the root of another graph stands on, and this is the root's copy
pub record IsGrafted (from old new : Graph) (root made : BoolId) : Type 0 where
  pub numbers : List ℕ
  pub copied : IsCopied from old new (root ∷ []) numbers
  pub answer : new_bool numbers root ≡ made
