-- What a node becomes by a rule, and what simplifying a graph keeps.
use Rattle.std.specs.Prelude.{◌≡◌, ℕ, Bool, false, List, Some, length, slice_get, slice_index, nat_lt}
use Rattle.sk_dag.specs.declared.env.Env.{Env}
use Rattle.sk_dag.specs.declared.node.BoolId.{BoolId}
use Rattle.sk_dag.specs.declared.node.Node.{Node}
use Rattle.sk_dag.specs.declared.node.Node.TheVariants.{And, Or, Xor, Add, Mul, Eq}
use Rattle.sk_dag.specs.declared.value.Value.{Value}
use Rattle.sk_dag.specs.Graph.{Graph, Grows, HasSort, HasBool, Sort, BoolSort, WordSort, CostSort, sort_of, MayFollow}
use Rattle.sk_dag.specs.Eval.{bool_value, graph_values, value_at, value_of, as_bool, as_word, as_cost}
use Rattle.sk_dag.specs.Reach.{Reaches, StandsFor}
use Rattle.sk_simplify.specs.declared.reduced.Reduced.{Reduced}
use Rattle.sk_simplify.specs.declared.reduced.Reduced.TheVariants.{Known, Fresh}
use Rattle.sk_simplify.specs.Rules.{left_side}

-- two values of this sort are the same
abbrev pub IsSame : Sort → Value → Value → Type 0
IsSame BoolSort u v = as_bool u ≡ as_bool v
IsSame WordSort u v = as_word u ≡ as_word v
IsSame CostSort u v = as_cost u ≡ as_cost v

-- node i has the value that the node would have, from now on
pub record IsKnown (graph : Graph) (node : Node) (i : ℕ) : Type 0 where
  pub there : HasSort graph.nodes i (sort_of node)
  pub value : (g : Graph) → Grows graph g → (e : Env) → IsSame (sort_of node) (value_at (graph_values g e) i) (value_of graph.bits e (graph_values g e) node)

-- the other node may follow, no rule fits it, and it would have the same value from now on
pub record IsFresh (graph : Graph) (node other : Node) : Type 0 where
  pub may : MayFollow graph.bits graph.nodes other
  pub sort : sort_of other ≡ sort_of node
  pub simple : left_side graph.nodes other ≡ false
  pub value : (g : Graph) → Grows graph g → (e : Env) → value_of graph.bits e (graph_values g e) other ≡ value_of graph.bits e (graph_values g e) node

abbrev pub IsReduct : Graph → Node → Reduced → Type 0
IsReduct graph node (Known i) = IsKnown graph node i
IsReduct graph node (Fresh other) = IsFresh graph node other

-- the operands of a commutative operator stand in the wrong order
abbrev pub is_swapped : Node → Bool
is_swapped (And a b) = nat_lt b.index a.index
is_swapped (Or a b) = nat_lt b.index a.index
is_swapped (Xor a b) = nat_lt b.index a.index
is_swapped (Add a b) = nat_lt b.index a.index
is_swapped (Mul a b) = nat_lt b.index a.index
is_swapped (Eq a b) = nat_lt b.index a.index
is_swapped _ = false

-- the other node is the same operator over the same nodes
pub record IsReordered (node other : Node) : Type 0 where
  pub sort : sort_of other ≡ sort_of node
  pub may : (w : ℕ) (nodes : List Node) → MayFollow w nodes node → MayFollow w nodes other
  pub value : (w : ℕ) (e : Env) (vs : List Value) → value_of w e vs other ≡ value_of w e vs node

-- node i has from now on the value that the node would have
pub record IsWorth (graph : Graph) (node : Node) (i : ℕ) : Type 0 where
  pub there : HasSort graph.nodes i (sort_of node)
  pub value : (g : Graph) → Grows graph g → (e : Env) → value_at (graph_values g e) i ≡ value_of graph.bits e (graph_values g e) node

-- each new root has the value of its old root in every environment, also in what the new graph grows to
pub record KeepsRoots (old : Graph) (roots : List BoolId) (new : Graph) (made : List BoolId) : Type 0 where
  pub length : length made ≡ length roots
  pub there : (k : ℕ) (m : BoolId) → slice_get made k ≡ Some m → HasBool new.nodes m
  pub value : (k : ℕ) (r m : BoolId) → slice_get roots k ≡ Some r → slice_get made k ≡ Some m → (g : Graph) → Grows new g → (e : Env) → bool_value g e m ≡ bool_value old e r

-- each node of the new graph stands for one of the old graph that the roots stand on, and no two for the same
pub record OnlyBelow (old : Graph) (roots : List BoolId) (new : Graph) : Type 0 where
  pub numbers : List ℕ
  pub each : (k : ℕ) (m : Node) → slice_get new.nodes k ≡ Some m → (i : ℕ) × Reaches old.nodes roots i × (slice_index numbers i ≡ k) × StandsFor old new i k
