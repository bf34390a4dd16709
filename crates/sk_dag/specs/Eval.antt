-- The value of each node.
use Rattle.std.specs.Prelude.{take, ◌≡◌, ◌⊎◌, Some, slice_get, ℕ, ◌+◌, ◌-◌, ◌^◌, min, nat_le, nat_lt, List, [], ◌∷◌, ◌++◌, Bool, false, not, ◌&&◌, ◌||◌, ℤ, pos, ◌+ℤ◌, ◌-ℤ◌, ◌*ℤ◌, int_lt, fold, slice_index, slice_index_or, unsigned_abs, if◌then◌else◌}
use Rattle.std.specs.Ordering.{int_eq}
use Rattle.sk_dag.specs.declared.env.Env.{Env}
use Rattle.sk_base.specs.Word.{wrapped, IsWord}
use Rattle.sk_dag.specs.Word.{IsMachineWord, quotient, remainder, bit_of}
use Rattle.sk_dag.specs.Graph.{Graph, Grows, HasSort, Sort, BoolSort, WordSort, CostSort, sort_of, MayFollow}
use Rattle.sk_dag.specs.declared.node.BoolId.{BoolId}
use Rattle.sk_dag.specs.declared.node.WordId.{WordId}
use Rattle.sk_dag.specs.declared.node.CostId.{CostId}
use Rattle.sk_dag.specs.declared.node.Node.{Node}
use Rattle.sk_dag.specs.declared.node.Node.TheVariants.{Flag, Word, HoleBit, HoleWord, InputBit, InputWord, Not, And, Or, Xor, BoolMux, Mux, Add, Sub, Mul, Div, Rem, Lt, Eq, CostZero, CostAdd, CostLe}
use Rattle.sk_dag.specs.declared.value.Value.{Value}
use Rattle.sk_dag.specs.declared.value.Value.TheVariants.{Bit, Int, Cost}

-- an entry of a list of signed numbers, or 0
abbrev pub entry : List ℤ → ℕ → ℤ
entry zs i = slice_index_or zs i (pos 0)

abbrev pub as_bool : Value → Bool
as_bool (Bit b) = b
as_bool (Int z) = false
as_bool (Cost c) = false

abbrev pub as_word : Value → ℤ
as_word (Bit b) = pos 0
as_word (Int z) = z
as_word (Cost c) = pos 0

abbrev pub as_cost : Value → ℕ
as_cost (Bit b) = 0
as_cost (Int z) = 0
as_cost (Cost c) = c

-- the value with this number, among those of the nodes
abbrev pub value_at : List Value → ℕ → Value
value_at vs i = slice_index_or vs i (Bit false)

abbrev pub bool_at : List Value → BoolId → Bool
bool_at vs a = as_bool (value_at vs a.index)

abbrev pub word_at : List Value → WordId → ℤ
word_at vs a = as_word (value_at vs a.index)

abbrev pub cost_at : List Value → CostId → ℕ
cost_at vs a = as_cost (value_at vs a.index)

-- c, and x more where g holds and x is above 0, as far as 64 bits go
abbrev pub charge : ℕ → Bool → ℤ → ℕ
charge c g x = if g && int_lt (pos 0) x then min (c + unsigned_abs x) (2 ^ 64 - 1) else c

-- the value of a node, from those of the nodes before it
unfoldable pub value_of : ℕ → Env → List Value → Node → Value
value_of w e vs (Flag b) = Bit b
value_of w e vs (Word z) = Int z
value_of w e vs (HoleBit site k) = Bit (nat_lt k 64 && bit_of (slice_index e.choice site) k)
value_of w e vs (HoleWord site) = Int (wrapped w (pos (slice_index e.choice site)))
value_of w e vs (InputBit i) = Bit (not (int_eq (entry e.input i) (pos 0)))
value_of w e vs (InputWord i) = Int (wrapped w (entry e.input i))
value_of w e vs (Not a) = Bit (not (bool_at vs a))
value_of w e vs (And a b) = Bit (bool_at vs a && bool_at vs b)
value_of w e vs (Or a b) = Bit (bool_at vs a || bool_at vs b)
value_of w e vs (Xor a b) = Bit (if bool_at vs a then not (bool_at vs b) else bool_at vs b)
value_of w e vs (BoolMux c a b) = Bit (if bool_at vs c then bool_at vs a else bool_at vs b)
value_of w e vs (Mux c a b) = Int (if bool_at vs c then word_at vs a else word_at vs b)
value_of w e vs (Add a b) = Int (wrapped w (word_at vs a +ℤ word_at vs b))
value_of w e vs (Sub a b) = Int (wrapped w (word_at vs a -ℤ word_at vs b))
value_of w e vs (Mul a b) = Int (wrapped w (word_at vs a *ℤ word_at vs b))
value_of w e vs (Div a b) = Int (quotient w (word_at vs a) (word_at vs b))
value_of w e vs (Rem a b) = Int (remainder w (word_at vs a) (word_at vs b))
value_of w e vs (Lt a b) = Bit (int_lt (word_at vs a) (word_at vs b))
value_of w e vs (Eq a b) = Bit (int_eq (word_at vs a) (word_at vs b))
value_of w e vs CostZero = Cost 0
value_of w e vs (CostAdd c g x) = Cost (charge (cost_at vs c) (bool_at vs g) (word_at vs x))
value_of w e vs (CostLe c limit) = Bit (nat_le (cost_at vs c) limit)

-- the values of the nodes, each from those before it
unfoldable pub values : ℕ → Env → List Node → List Value
values w e nodes = fold (λ vs n. vs ++ value_of w e vs n ∷ []) [] nodes

-- what the nodes of a graph mean
abbrev pub graph_values : Graph → Env → List Value
graph_values g e = values g.bits e g.nodes

unfoldable pub bool_value : Graph → Env → BoolId → Bool
bool_value g e a = bool_at (graph_values g e) a

unfoldable pub word_value : Graph → Env → WordId → ℤ
word_value g e a = word_at (graph_values g e) a

unfoldable pub cost_value : Graph → Env → CostId → ℕ
cost_value g e a = cost_at (graph_values g e) a

-- the new graph is the old one with this node, whose number is i: its old number where it was there
pub record Makes (old new : Graph) (i : ℕ) (node : Node) : Type 0 where
  pub grows : Grows old new
  pub found : slice_get new.nodes i ≡ Some node
  pub alone : (k : ℕ) → slice_get new.nodes k ≡ Some node → k ≡ i
  pub sort : HasSort new.nodes i (sort_of node)
  pub only : (k : ℕ) (m : Node) → slice_get new.nodes k ≡ Some m → (slice_get old.nodes k ≡ Some m) ⊎ (m ≡ node)
  pub children : MayFollow old.bits old.nodes node
  pub closed : (k : ℕ) (m : Node) → slice_get old.nodes k ≡ Some m → MayFollow old.bits old.nodes m
  pub known : (k : ℕ) → slice_get old.nodes k ≡ Some node → (i ≡ k) × (new ≡ old)
  pub value : (g : Graph) → Grows new g → (e : Env) → value_at (graph_values g e) i ≡ value_of old.bits e (graph_values g e) node

pub record HoldsMachineWords (vs : List Value) : Type 0 where
  pub each : (i : ℕ) → IsMachineWord (as_word (value_at vs i))

-- what was there stays there, in whatever the new graph grows to
pub record Keeps (old new : Graph) : Type 0 where
  pub later : (g : Graph) → Grows new g → Grows old g
  pub sorts : (i : ℕ) (s : Sort) → HasSort old.nodes i s → HasSort new.nodes i s

-- the new graph is the old one with this node, whose number is i
pub data IsMade (old new : Graph) (i : ℕ) (node : Node) : Type 0 where
  made_by : Makes old new i node → IsMade old new i node

-- the node with this number, and with no other, is this one; the nodes that it names are there and stand before it,
-- and this is its value from now on, a word in range where it is one
pub record IsNode (graph : Graph) (i : ℕ) (node : Node) : Type 0 where
  pub found : slice_get graph.nodes i ≡ Some node
  pub only : (k : ℕ) → slice_get graph.nodes k ≡ Some node → k ≡ i
  pub before : MayFollow graph.bits (take i graph.nodes) node
  pub children : MayFollow graph.bits graph.nodes node
  pub value : (g : Graph) → Grows graph g → (e : Env) → value_at (graph_values g e) i ≡ value_of graph.bits e (graph_values g e) node
  pub range : (g : Graph) → Grows graph g → (e : Env) → IsWord graph.bits (as_word (value_at (graph_values g e) i))

-- a value of this sort
abbrev pub IsShaped : Sort → Value → Type 0
IsShaped BoolSort v = v ≡ Bit (as_bool v)
IsShaped WordSort v = v ≡ Int (as_word v)
IsShaped CostSort v = v ≡ Cost (as_cost v)
