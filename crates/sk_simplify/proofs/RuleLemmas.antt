-- What the rules rest on.
use Rattle.std.proofs.Common.{to_z, of_z, w64, ◌≡◌, ℕ, ◌<◌, ◌≤◌, ◌+ℤ◌, ◌-ℤ◌, ◌*ℤ◌, ℤ, if◌then◌else◌, pos, Bool, true, false, not, ◌&&◌, ◌||◌, nat_lt, List, length, refl, sym, ap, subst, ◌∙◌, arith}
use Rattle.std.proofs.lemmas.Int.{ints}
use Rattle.std.proofs.lemmas.Bool.Decides.{nat_tests}
use Rattle.std.proofs.lemmas.Cmp.{int_eq_equiv}
use lib.IntN.{+ℤ_comm, *ℤ_comm}
use Rattle.std.proofs.lemmas.Option.{slice_get_within}
use Rattle.std.specs.Ordering.{int_eq}
use Rattle.sk_base.specs.Word.{IsWord, wrapped}
use Rattle.sk_base.proofs.Words.{half_pos, half_le, wrapped-word, IsWord-wrapped}
use Rattle.sk_dag.specs.Word.{IsMachineWord, quotient, remainder}
use Rattle.sk_dag.specs.declared.env.Env.{Env}
use Rattle.sk_dag.specs.declared.node.WordId.{WordId}
use Rattle.sk_dag.specs.declared.node.Node.{Node}
use Rattle.sk_dag.specs.declared.node.Node.TheVariants.{Word, Add, Sub, Mul, Div, Rem}
use Rattle.sk_dag.specs.declared.value.Value.{Value}
use Rattle.sk_dag.specs.declared.value.Value.TheVariants.{Int}
use Rattle.sk_dag.specs.Graph.{Graph, Grows, HasSort, Sort, WordSort, sort_of, HasWord}
use Rattle.sk_dag.specs.Eval.{IsNode, word_value, word_at, as_word, value_at, value_of, graph_values}
use Rattle.sk_simplify.specs.Rules.{left_side}
use Rattle.sk_simplify.specs.Reduct.{IsFresh, IsKnown}
use Rattle.sk_dag.proofs.EvalLemmas.{read_bool, read_word, read_cost}

-- a node that is there is below the length
pub HasSort-within : {nodes : List Node} {i : ℕ} {s : Sort} → HasSort nodes i s → i < length nodes
HasSort-within h = slice_get_within _ _ h.node h.found

pub read_range : {a : Graph} {x : WordId} {n : Node} → IsNode a x.index n → (g : Graph) → Grows a g → (e : Env) → IsWord a.bits (word_value g e x)
unfolding word_value
read_range m g h e = m.range g h e

-- a word that is given is in range
pub read_word_given : {a : Graph} {i : ℕ} {z : ℤ} → IsNode a i (Word z) → IsWord a.bits z
read_word_given m = m.children

pub machine_word : (w : ℕ) (z : ℤ) → w ≤ 32 → IsWord w z → IsMachineWord z
machine_word w z l h =
    let b = half_le w l in
    record { low = omega (arith, ints, h.low); high = omega (arith, ints, h.high) }

pub ruleset reading = (read_word_given, HasSort-within, read_bool, read_word, read_cost, read_range)

-- ---- the rules of arithmetic

pub zero_word : (w : ℕ) → IsWord w (pos 0)
zero_word w = record { low = omega (arith, ints); high = omega (arith, ints, half_pos w) }

pub add_zero_left : (w : ℕ) (z : ℤ) → IsWord w z → wrapped w (pos 0 +ℤ z) ≡ z
add_zero_left w z h = let e : pos 0 +ℤ z ≡ z = omega (arith, ints) in rw e (wrapped-word w z h)

pub add_zero_right : (w : ℕ) (z : ℤ) → IsWord w z → wrapped w (z +ℤ pos 0) ≡ z
add_zero_right w z h = let e : z +ℤ pos 0 ≡ z = omega (arith, ints) in rw e (wrapped-word w z h)

pub sub_zero : (w : ℕ) (z : ℤ) → IsWord w z → wrapped w (z -ℤ pos 0) ≡ z
sub_zero w z h = let e : z -ℤ pos 0 ≡ z = omega (arith, ints) in rw e (wrapped-word w z h)

pub sub_self : (w : ℕ) (z : ℤ) → wrapped w (z -ℤ z) ≡ pos 0
sub_self w z = let e : z -ℤ z ≡ pos 0 = omega (arith, ints) in rw e (wrapped-word w (pos 0) (zero_word w))

pub mul_zero_left : (w : ℕ) (z : ℤ) → wrapped w (pos 0 *ℤ z) ≡ pos 0
mul_zero_left w z = let e : pos 0 *ℤ z ≡ pos 0 = omega (arith, ints) in rw e (wrapped-word w (pos 0) (zero_word w))

pub mul_zero_right : (w : ℕ) (z : ℤ) → wrapped w (z *ℤ pos 0) ≡ pos 0
mul_zero_right w z = let e : z *ℤ pos 0 ≡ pos 0 = omega (arith, ints) in rw e (wrapped-word w (pos 0) (zero_word w))

pub mul_one_left : (w : ℕ) (z : ℤ) → IsWord w z → wrapped w (pos 1 *ℤ z) ≡ z
mul_one_left w z h = let e : pos 1 *ℤ z ≡ z = omega (arith, ints) in rw e (wrapped-word w z h)

pub mul_one_right : (w : ℕ) (z : ℤ) → IsWord w z → wrapped w (z *ℤ pos 1) ≡ z
mul_one_right w z h = let e : z *ℤ pos 1 ≡ z = omega (arith, ints) in rw e (wrapped-word w z h)

chosen_word : (w : ℕ) (b : Bool) (z : ℤ) → IsWord w (if b then pos 0 else wrapped w z)
chosen_word w true z = zero_word w
chosen_word w false z = IsWord-wrapped w z

pub IsWord-quotient : (w : ℕ) (x y : ℤ) → IsWord w (quotient w x y)
IsWord-quotient w x y = chosen_word w (int_eq y (pos 0)) _

pub IsWord-remainder : (w : ℕ) (x y : ℤ) → IsWord w (remainder w x y)
IsWord-remainder w x y = chosen_word w (int_eq y (pos 0)) _

pub ruleset ruling = (machine_word, zero_word, IsWord-wrapped, add_zero_left, add_zero_right, sub_zero, sub_self, mul_zero_left, mul_zero_right, mul_one_left, mul_one_right)

-- ---- operators that commute

pub and_swap : (a b : Bool) → (a && b) ≡ (b && a)
and_swap true true = refl
and_swap true false = refl
and_swap false true = refl
and_swap false false = refl

pub or_swap : (a b : Bool) → (a || b) ≡ (b || a)
or_swap true true = refl
or_swap true false = refl
or_swap false true = refl
or_swap false false = refl

pub xor_swap : (a b : Bool) → (if a then not b else b) ≡ (if b then not a else a)
xor_swap true true = refl
xor_swap true false = refl
xor_swap false true = refl
xor_swap false false = refl

pub add_swap : (x y : ℤ) → x +ℤ y ≡ y +ℤ x
add_swap x y = +ℤ_comm x y

pub mul_swap : (x y : ℤ) → x *ℤ y ≡ y *ℤ x
mul_swap x y = *ℤ_comm x y

pub eq_swap : (x y : ℤ) → int_eq x y ≡ int_eq y x
eq_swap x y = int_eq_equiv.symm x y

pub not_below : (a b : ℕ) → nat_lt b a ≡ false → a ≤ b
not_below a b h = grind (arith, nat_tests)

pub below_not : (a b : ℕ) → a ≤ b → nat_lt b a ≡ false
below_not a b h = grind (arith, nat_tests)

pub ruleset reordering = (below_not, and_swap, or_swap, xor_swap, add_swap, mul_swap, eq_swap)

pub ruleset in_order = (not_below)

-- ---- an operator on two words that are given

fresh_word : {graph : Graph} (node : Node) (a b : WordId) (x y z : ℤ) (f : ℤ → ℤ → ℤ) → sort_of node ≡ WordSort → ((e : Env) (vs : List Value) → value_of graph.bits e vs node ≡ Int (f (word_at vs a) (word_at vs b))) → ((g : Graph) → Grows graph g → (e : Env) → word_value g e a ≡ x) → ((g : Graph) → Grows graph g → (e : Env) → word_value g e b ≡ y) → IsWord graph.bits z → z ≡ f x y → IsFresh graph node (Word z)
unfolding value_of word_value left_side
fresh_word node a b x y z f sort value first second word is = record {
  may = word;
  sort = sym sort;
  simple = refl;
  value = λ g m e.
      ap Int (is ∙ (λ i. f (sym (first g m e) i) (sym (second g m e) i))) ∙ sym (value e (graph_values g e));
}

-- a word that is given from now on
abbrev pub IsGiven : Graph → WordId → ℤ → Type 0
IsGiven graph a x = (g : Graph) → Grows graph g → (e : Env) → word_value g e a ≡ x

pub fresh_sum : {graph : Graph} (bits : ℕ) (a b : WordId) (x y z : ℤ) → bits ≡ graph.bits → IsGiven graph a x → IsGiven graph b y → z ≡ wrapped bits (x +ℤ y) → IsFresh graph (Add a b) (Word z)
unfolding value_of
fresh_sum {graph} bits a b x y z width first second is =
    let same : z ≡ wrapped graph.bits (x +ℤ y) = is ∙ ap (λ w. wrapped w (x +ℤ y)) width in
    fresh_word (Add a b) a b x y z (λ x y. wrapped graph.bits (x +ℤ y)) refl (λ e vs. refl) first second (subst (IsWord graph.bits) (sym same) (IsWord-wrapped graph.bits _)) same

pub fresh_difference : {graph : Graph} (bits : ℕ) (a b : WordId) (x y z : ℤ) → bits ≡ graph.bits → IsGiven graph a x → IsGiven graph b y → z ≡ wrapped bits (x -ℤ y) → IsFresh graph (Sub a b) (Word z)
unfolding value_of
fresh_difference {graph} bits a b x y z width first second is =
    let same : z ≡ wrapped graph.bits (x -ℤ y) = is ∙ ap (λ w. wrapped w (x -ℤ y)) width in
    fresh_word (Sub a b) a b x y z (λ x y. wrapped graph.bits (x -ℤ y)) refl (λ e vs. refl) first second (subst (IsWord graph.bits) (sym same) (IsWord-wrapped graph.bits _)) same

pub fresh_product : {graph : Graph} (bits : ℕ) (a b : WordId) (x y z : ℤ) → bits ≡ graph.bits → IsGiven graph a x → IsGiven graph b y → z ≡ wrapped bits (x *ℤ y) → IsFresh graph (Mul a b) (Word z)
unfolding value_of
fresh_product {graph} bits a b x y z width first second is =
    let same : z ≡ wrapped graph.bits (x *ℤ y) = is ∙ ap (λ w. wrapped w (x *ℤ y)) width in
    fresh_word (Mul a b) a b x y z (λ x y. wrapped graph.bits (x *ℤ y)) refl (λ e vs. refl) first second (subst (IsWord graph.bits) (sym same) (IsWord-wrapped graph.bits _)) same

pub fresh_quotient : {graph : Graph} (bits : ℕ) (a b : WordId) (x y z : ℤ) → bits ≡ graph.bits → IsGiven graph a x → IsGiven graph b y → z ≡ quotient bits x y → IsFresh graph (Div a b) (Word z)
unfolding value_of
fresh_quotient {graph} bits a b x y z width first second is =
    let same : z ≡ quotient graph.bits x y = is ∙ ap (λ w. quotient w x y) width in
    fresh_word (Div a b) a b x y z (λ x y. quotient graph.bits x y) refl (λ e vs. refl) first second (subst (IsWord graph.bits) (sym same) (IsWord-quotient graph.bits x y)) same

pub fresh_remainder : {graph : Graph} (bits : ℕ) (a b : WordId) (x y z : ℤ) → bits ≡ graph.bits → IsGiven graph a x → IsGiven graph b y → z ≡ remainder bits x y → IsFresh graph (Rem a b) (Word z)
unfolding value_of
fresh_remainder {graph} bits a b x y z width first second is =
    let same : z ≡ remainder graph.bits x y = is ∙ ap (λ w. remainder w x y) width in
    fresh_word (Rem a b) a b x y z (λ x y. remainder graph.bits x y) refl (λ e vs. refl) first second (subst (IsWord graph.bits) (sym same) (IsWord-remainder graph.bits x y)) same

-- `add 0 b`, `sub a 0` and `sub a a`
pub known_add_zero : {graph : Graph} (a b : WordId) → HasWord graph.nodes b → IsGiven graph a (pos 0) → ((g : Graph) → Grows graph g → (e : Env) → IsWord graph.bits (word_value g e b)) → IsKnown graph (Add a b) b.index
unfolding value_of word_value
known_add_zero {graph} a b there zero range = record {
  there = there;
  value = λ g m e. sym (ap (λ z. wrapped graph.bits (z +ℤ word_at (graph_values g e) b)) (zero g m e) ∙ add_zero_left graph.bits _ (range g m e));
}

pub known_sub_zero : {graph : Graph} (a b : WordId) → HasWord graph.nodes a → IsGiven graph b (pos 0) → ((g : Graph) → Grows graph g → (e : Env) → IsWord graph.bits (word_value g e a)) → IsKnown graph (Sub a b) a.index
unfolding value_of word_value
known_sub_zero {graph} a b there zero range = record {
  there = there;
  value = λ g m e. sym (ap (λ z. wrapped graph.bits (word_at (graph_values g e) a -ℤ z)) (zero g m e) ∙ sub_zero graph.bits _ (range g m e));
}

pub fresh_sub_self : {graph : Graph} (a b : WordId) → a.index ≡ b.index → IsFresh graph (Sub a b) (Word (pos 0))
unfolding value_of left_side
fresh_sub_self {graph} a b same = record {
  may = zero_word graph.bits;
  sort = refl;
  simple = refl;
  value = λ g m e.
      ap Int (sym (ap (λ i. wrapped graph.bits (word_at (graph_values g e) a -ℤ as_word (value_at (graph_values g e) i))) (sym same) ∙ sub_self graph.bits (word_at (graph_values g e) a)));
}

pub as_word64 : (w : ℕ) (x : ℤ) → w ≤ 32 → IsWord w x → to_z w64 (of_z w64 x) ≡ x
as_word64 w x l h =
    let b = half_le w l in
    omega (arith, ints, h.low, h.high)
