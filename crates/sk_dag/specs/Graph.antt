-- A graph as its nodes in order, and what may stand in it.
use Rattle.std.specs.Prelude.{◌≡◌, ℕ, ◌≤◌, List, Some, length, take, slice_get, ⊤}
use Rattle.sk_base.specs.Word.{IsWord}
use Rattle.sk_dag.specs.declared.node.BoolId.{BoolId}
use Rattle.sk_dag.specs.declared.node.WordId.{WordId}
use Rattle.sk_dag.specs.declared.node.CostId.{CostId}
use Rattle.sk_dag.specs.declared.node.Node.{Node}
use Rattle.sk_dag.specs.declared.node.Node.TheVariants.{Flag, Word, HoleBit, HoleWord, InputBit, InputWord, Not, And, Or, Xor, BoolMux, Mux, Add, Sub, Mul, Div, Rem, Lt, Eq, CostZero, CostAdd, CostLe}

-- the number of bits of a word, and the nodes in the order of their numbers
pub record Graph : Type 0 where
  pub bits : ℕ
  pub nodes : List Node

pub data Sort : Type 0 where
  BoolSort : Sort
  WordSort : Sort
  CostSort : Sort

abbrev pub sort_of : Node → Sort
sort_of (Flag b) = BoolSort
sort_of (Word z) = WordSort
sort_of (HoleBit site bit) = BoolSort
sort_of (HoleWord site) = WordSort
sort_of (InputBit i) = BoolSort
sort_of (InputWord i) = WordSort
sort_of (Not a) = BoolSort
sort_of (And a b) = BoolSort
sort_of (Or a b) = BoolSort
sort_of (Xor a b) = BoolSort
sort_of (BoolMux c a b) = BoolSort
sort_of (Mux c a b) = WordSort
sort_of (Add a b) = WordSort
sort_of (Sub a b) = WordSort
sort_of (Mul a b) = WordSort
sort_of (Div a b) = WordSort
sort_of (Rem a b) = WordSort
sort_of (Lt a b) = BoolSort
sort_of (Eq a b) = BoolSort
sort_of CostZero = CostSort
sort_of (CostAdd c g w) = CostSort
sort_of (CostLe c limit) = BoolSort

-- the node with this number is there, and its value is of this sort
pub record HasSort (nodes : List Node) (i : ℕ) (s : Sort) : Type 0 where
  pub node : Node
  pub found : slice_get nodes i ≡ Some node
  pub sort : sort_of node ≡ s

abbrev pub HasBool : List Node → BoolId → Type 0
HasBool nodes a = HasSort nodes a.index BoolSort

abbrev pub HasWord : List Node → WordId → Type 0
HasWord nodes a = HasSort nodes a.index WordSort

abbrev pub HasCost : List Node → CostId → Type 0
HasCost nodes a = HasSort nodes a.index CostSort

-- the node may follow these: each node that it names is there, with the right sort
abbrev pub MayFollow : ℕ → List Node → Node → Type 0
MayFollow w nodes (Flag b) = ⊤
MayFollow w nodes (Word z) = IsWord w z
MayFollow w nodes (HoleBit site bit) = ⊤
MayFollow w nodes (HoleWord site) = ⊤
MayFollow w nodes (InputBit i) = ⊤
MayFollow w nodes (InputWord i) = ⊤
MayFollow w nodes (Not a) = HasBool nodes a
MayFollow w nodes (And a b) = HasBool nodes a × HasBool nodes b
MayFollow w nodes (Or a b) = HasBool nodes a × HasBool nodes b
MayFollow w nodes (Xor a b) = HasBool nodes a × HasBool nodes b
MayFollow w nodes (BoolMux c a b) = HasBool nodes c × HasBool nodes a × HasBool nodes b
MayFollow w nodes (Mux c a b) = HasBool nodes c × HasWord nodes a × HasWord nodes b
MayFollow w nodes (Add a b) = HasWord nodes a × HasWord nodes b
MayFollow w nodes (Sub a b) = HasWord nodes a × HasWord nodes b
MayFollow w nodes (Mul a b) = HasWord nodes a × HasWord nodes b
MayFollow w nodes (Div a b) = HasWord nodes a × HasWord nodes b
MayFollow w nodes (Rem a b) = HasWord nodes a × HasWord nodes b
MayFollow w nodes (Lt a b) = HasWord nodes a × HasWord nodes b
MayFollow w nodes (Eq a b) = HasWord nodes a × HasWord nodes b
MayFollow w nodes CostZero = ⊤
MayFollow w nodes (CostAdd c g x) = HasCost nodes c × HasBool nodes g × HasWord nodes x
MayFollow w nodes (CostLe c limit) = HasCost nodes c

-- each node may follow those before it, and no two nodes are equal
pub record IsWellFormed (w : ℕ) (nodes : List Node) : Type 0 where
  pub bits_low : 2 ≤ w
  pub bits_high : w ≤ 32
  pub each : (i : ℕ) (n : Node) → slice_get nodes i ≡ Some n → MayFollow w (take i nodes) n
  pub distinct : (i j : ℕ) (n : Node) → slice_get nodes i ≡ Some n → slice_get nodes j ≡ Some n → i ≡ j

-- the new graph has the nodes of the old one, under their numbers, and maybe more
pub record Grows (old new : Graph) : Type 0 where
  pub bits : new.bits ≡ old.bits
  pub nodes : take (length old.nodes) new.nodes ≡ old.nodes
