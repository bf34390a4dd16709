-- The rules of the simplifier: which nodes are instances of a left side.
use Rattle.std.specs.Prelude.{◌≡◌, ℕ, ◌==◌, Bool, true, false, ◌||◌, ◌&&◌, List, Option, Some, None, ℤ, pos, nat_lt, slice_get}
use Rattle.std.specs.Ordering.{int_eq}
use Rattle.sk_dag.specs.Graph.{Graph}
use Rattle.sk_dag.specs.declared.node.BoolId.{BoolId}
use Rattle.sk_dag.specs.declared.node.WordId.{WordId}
use Rattle.sk_dag.specs.declared.node.Node.{Node}
use Rattle.sk_dag.specs.declared.node.Node.TheVariants.{Flag, Word, HoleBit, HoleWord, InputBit, InputWord, Not, And, Or, Xor, BoolMux, Mux, Add, Sub, Mul, Div, Rem, Lt, Eq, CostZero, CostAdd, CostLe}

-- the truth value that a node is
abbrev pub flag_in : Option Node → Option Bool
flag_in (Some (Flag b)) = Some b
flag_in _ = None

-- the word that a node is
abbrev pub word_in : Option Node → Option ℤ
word_in (Some (Word z)) = Some z
word_in _ = None

-- the node that a node is the negation of
abbrev pub negated_in : Option Node → Option BoolId
negated_in (Some (Not a)) = Some a
negated_in _ = None

abbrev pub is_cost_zero : Option Node → Bool
is_cost_zero (Some CostZero) = true
is_cost_zero _ = false

abbrev pub is_true : Option Bool → Bool
is_true (Some b) = b
is_true None = false

abbrev pub is_false : Option Bool → Bool
is_false (Some true) = false
is_false (Some false) = true
is_false None = false

abbrev pub is_word : Option ℤ → Bool
is_word (Some z) = true
is_word None = false

-- the word n
abbrev pub is_the_word : ℤ → Option ℤ → Bool
is_the_word n (Some z) = int_eq z n
is_the_word n None = false

abbrev pub is_not : Option BoolId → Bool
is_not (Some a) = true
is_not None = false

-- the negation of b
abbrev pub is_not_of : BoolId → Option BoolId → Bool
is_not_of b (Some a) = a.index == b.index
is_not_of b None = false

module _ (nodes : List Node) where
  abbrev pub flag_at : BoolId → Option Bool
  flag_at a = flag_in (slice_get nodes a.index)

  abbrev pub word_at : WordId → Option ℤ
  word_at a = word_in (slice_get nodes a.index)

  abbrev pub negated_at : BoolId → Option BoolId
  negated_at a = negated_in (slice_get nodes a.index)

  -- the node is t, or f
  abbrev pub true_at : BoolId → Bool
  true_at a = is_true (flag_at a)

  abbrev pub false_at : BoolId → Bool
  false_at a = is_false (flag_at a)

  -- the node is the word n
  abbrev pub number_at : ℤ → WordId → Bool
  number_at n a = is_the_word n (word_at a)

  -- both nodes are words that are given
  abbrev pub are_words : WordId → WordId → Bool
  are_words a b = is_word (word_at a) && is_word (word_at b)

  -- one node is the negation of the other
  abbrev pub are_opposite : BoolId → BoolId → Bool
  are_opposite a b = is_not_of b (negated_at a) || is_not_of a (negated_at b)

  -- `not t`, `not f`, `not not a`
  abbrev pub left_not : BoolId → Bool
  left_not a = true_at a || false_at a || is_not (negated_at a)

  -- `op t a`, `op f a`, `op a a`, `op a (not a)` in either order, and operands that are to be exchanged:
  -- for `and` and for `or`
  abbrev pub left_and : BoolId → BoolId → Bool
  left_and a b =
      true_at a || false_at a || true_at b || false_at b || (a.index == b.index) || are_opposite a b || nat_lt b.index a.index

  -- `xor f a`, `xor t a`, `xor a a` in either order, and operands that are to be exchanged
  abbrev pub left_xor : BoolId → BoolId → Bool
  left_xor a b = true_at a || false_at a || true_at b || false_at b || (a.index == b.index) || nat_lt b.index a.index

  -- a choice on t, on f, with equal branches; `bool_mux c t f`
  abbrev pub left_bool_mux : BoolId → BoolId → BoolId → Bool
  left_bool_mux c a b = true_at c || false_at c || (a.index == b.index) || (true_at a && false_at b)

  abbrev pub left_mux : BoolId → WordId → WordId → Bool
  left_mux c a b = true_at c || false_at c || (a.index == b.index)

  -- `add n m`, `add 0 a` in either order, and operands that are to be exchanged
  abbrev pub left_add : WordId → WordId → Bool
  left_add a b = are_words a b || number_at (pos 0) a || number_at (pos 0) b || nat_lt b.index a.index

  -- `sub n m`, `sub a 0`, `sub a a`
  abbrev pub left_sub : WordId → WordId → Bool
  left_sub a b = are_words a b || number_at (pos 0) b || (a.index == b.index)

  -- `mul n m`, `mul 0 a`, `mul 1 a` in either order, and operands that are to be exchanged
  abbrev pub left_mul : WordId → WordId → Bool
  left_mul a b =
      are_words a b || number_at (pos 0) a || number_at (pos 0) b || number_at (pos 1) a || number_at (pos 1) b
      || nat_lt b.index a.index

  -- `lt n m`, `lt a a`
  abbrev pub left_lt : WordId → WordId → Bool
  left_lt a b = are_words a b || (a.index == b.index)

  -- `eq n m`, `eq a a`, and operands that are to be exchanged
  abbrev pub left_eq : WordId → WordId → Bool
  left_eq a b = are_words a b || (a.index == b.index) || nat_lt b.index a.index

  -- `cost_add c f w`, `cost_add c g 0`
  abbrev pub left_cost_add : BoolId → WordId → Bool
  left_cost_add g w = false_at g || number_at (pos 0) w

  -- the node is an instance of a left side; of `div` and `rem` these are `div n m` and `rem n m`, and of
  -- `cost_le` it is `cost_le cost_zero k`
  unfoldable pub left_side : Node → Bool
  left_side (Not a) = left_not a
  left_side (And a b) = left_and a b
  left_side (Or a b) = left_and a b
  left_side (Xor a b) = left_xor a b
  left_side (BoolMux c a b) = left_bool_mux c a b
  left_side (Mux c a b) = left_mux c a b
  left_side (Add a b) = left_add a b
  left_side (Sub a b) = left_sub a b
  left_side (Mul a b) = left_mul a b
  left_side (Div a b) = are_words a b
  left_side (Rem a b) = are_words a b
  left_side (Lt a b) = left_lt a b
  left_side (Eq a b) = left_eq a b
  left_side (CostAdd c g w) = left_cost_add g w
  left_side (CostLe c limit) = is_cost_zero (slice_get nodes c.index)
  left_side (Flag b) = false
  left_side (Word z) = false
  left_side (HoleBit site k) = false
  left_side (HoleWord site) = false
  left_side (InputBit i) = false
  left_side (InputWord i) = false
  left_side CostZero = false

-- no node of the graph is an instance of a left side
pub record IsSimple (graph : Graph) : Type 0 where
  pub each : (i : ℕ) (n : Node) → slice_get graph.nodes i ≡ Some n → left_side graph.nodes n ≡ false
