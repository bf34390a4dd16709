-- The values of the nodes of a graph that grows.
use Rattle.std.proofs.Common.{◌≡◌, ℕ, zero, suc, ◌+◌, ◌<◌, ◌≤◌, Bool, true, false, List, [], ◌∷◌, ◌++◌, Some, length, take, drop, slice_get, get_or, refl, sym, ap, subst, ◌∙◌, arith, ◌⊎◌, ⊎_elim, inl, inr, ℤ, pos, if◌then◌else◌}
use Rattle.std.proofs.lemmas.List.{take_all, take-append-drop, length-append, length-take, get_or_append_left, get_or_at, take-take, get_or_past, length-take-le}
use Rattle.std.proofs.lemmas.List.Sums.{fold-append, fold_more}
use Rattle.std.proofs.lemmas.Option.{none-some, slice_get_within, get_or_from_slice_get, slice_get-get_or}
use Rattle.std.specs.List.{fold}
use Rattle.std.proofs.lemmas.Bool.{cases_lt}
use Rattle.std.proofs.lemmas.Int.{ints}
use Rattle.sk_base.proofs.Words.{half_pos, half_le, IsWord-wrapped}
use Rattle.sk_base.specs.Word.{IsWord}
use Rattle.sk_dag.specs.declared.env.Env.{Env}
use Rattle.sk_dag.specs.Graph.{HasBool, HasWord, HasCost, Graph, MayFollow, IsWellFormed, Grows, HasSort, Sort, sort_of}
use Rattle.sk_dag.specs.Eval.{value_of, values, graph_values, value_at, Makes, made_by, Keeps, IsNode, IsShaped, as_bool, as_word, as_cost, HoldsMachineWords, bool_value, word_value, cost_value}
use Rattle.sk_dag.specs.declared.node.BoolId.{BoolId}
use Rattle.sk_dag.specs.declared.node.WordId.{WordId}
use Rattle.sk_dag.specs.declared.node.CostId.{CostId}
use Rattle.sk_dag.specs.declared.node.Node.{Node}
use Rattle.sk_dag.specs.declared.node.Node.TheVariants.{Flag, Word, HoleBit, HoleWord, InputBit, InputWord, Not, And, Or, Xor, BoolMux, Mux, Add, Sub, Mul, Div, Rem, Lt, Eq, CostZero, CostAdd, CostLe}
use Rattle.sk_dag.specs.declared.value.Value.{Value}
use Rattle.sk_dag.specs.declared.value.Value.TheVariants.{Bit}
use Rattle.sk_dag.proofs.GraphLemmas.{IsAdded}

module _ (w : ℕ) (e : Env) where
  -- the values so far, and that of one more node
  step : List Value → Node → List Value
  step vs n = vs ++ value_of w e vs n ∷ []

  -- the values of nodes that follow some whose values are known
  from : List Value → List Node → List Value
  from vs ns = fold (λ us n. us ++ value_of w e us n ∷ []) vs ns

  length-from : (vs : List Value) (ns : List Node) → length (from vs ns) ≡ length vs + length ns
  unfolding from
  length-from vs [] = omega arith
  length-from vs (n ∷ ns) =
      length-from (vs ++ value_of w e vs n ∷ []) ns ∙ omega (arith, length-append vs (value_of w e vs n ∷ []))

  get_or-from : (vs : List Value) (ns : List Node) (i : ℕ) → i < length vs → get_or (from vs ns) i (Bit false) ≡ get_or vs i (Bit false)
  unfolding from
  get_or-from vs [] i h = refl
  get_or-from vs (n ∷ ns) i h =
      get_or-from (vs ++ value_of w e vs n ∷ []) ns i (omega (arith, length-append vs (value_of w e vs n ∷ [])))
      ∙ get_or_append_left vs (value_of w e vs n ∷ []) (Bit false) i h

  values-append : (xs ys : List Node) → values w e (xs ++ ys) ≡ from (values w e xs) ys
  unfolding values from
  values-append xs ys = fold-append (λ us n. us ++ value_of w e us n ∷ []) [] xs ys

  pub length-values : (ns : List Node) → length (values w e ns) ≡ length ns
  unfolding values from
  length-values ns = length-from [] ns ∙ omega arith

  -- more nodes leave the values of those before them
  pub value_at-append : (xs ys : List Node) (i : ℕ) → i < length xs → value_at (values w e (xs ++ ys)) i ≡ value_at (values w e xs) i
  value_at-append xs ys i h =
      ap (λ vs. value_at vs i) (values-append xs ys) ∙ get_or-from (values w e xs) ys i (omega (arith, length-values xs))

  pub value_at-take : (xs : List Node) (k i : ℕ) → i < k → k ≤ length xs → value_at (values w e (take k xs)) i ≡ value_at (values w e xs) i
  value_at-take xs k i h l =
      sym (value_at-append (take k xs) (drop k xs) i (omega (arith, length-take k xs)))
      ∙ ap (λ ns. value_at (values w e ns) i) (take-append-drop k xs)

  pub values_more : (ns : List Node) (i : ℕ) (d : Node) → i < length ns → values w e (take (i + 1) ns) ≡ values w e (take i ns) ++ value_of w e (values w e (take i ns)) (get_or ns i d) ∷ []
  unfolding values
  values_more ns i d h = fold_more (λ us n. us ++ value_of w e us n ∷ []) [] ns i d h

  -- a node's value comes from those of the nodes before it
  value_at_node : (ns : List Node) (i : ℕ) (n : Node) → slice_get ns i ≡ Some n → value_at (values w e ns) i ≡ value_of w e (values w e (take i ns)) n
  value_at_node ns i n h =
      let within = slice_get_within ns i n h in
      let at = get_or_from_slice_get ns i n n h in
      let long : length (values w e (take i ns)) ≡ i = length-values (take i ns) ∙ omega (arith, length-take i ns) in
      sym (value_at-take ns (i + 1) i (omega arith) (omega arith))
      ∙ ap (λ vs. value_at vs i) (values_more ns i n within)
      ∙ get_or_at (values w e (take i ns)) _ [] (Bit false) i long
      ∙ ap (value_of w e (values w e (take i ns))) at

  -- a node's value comes from those of its children
  value_of-same : (us vs : List Value) (ns : List Node) → ((i : ℕ) (s : Sort) → HasSort ns i s → value_at us i ≡ value_at vs i) → (n : Node) → MayFollow w ns n → value_of w e us n ≡ value_of w e vs n
  unfolding value_of
  value_of-same us vs ns same (Flag b) h = refl
  value_of-same us vs ns same (Word z) h = refl
  value_of-same us vs ns same (HoleBit site k) h = refl
  value_of-same us vs ns same (HoleWord site) h = refl
  value_of-same us vs ns same (InputBit i) h = refl
  value_of-same us vs ns same (InputWord i) h = refl
  value_of-same us vs ns same (Not a) h = rw (same a.index _ h)
  value_of-same us vs ns same (And a b) h = rw (same a.index _ h.0, same b.index _ h.1)
  value_of-same us vs ns same (Or a b) h = rw (same a.index _ h.0, same b.index _ h.1)
  value_of-same us vs ns same (Xor a b) h = rw (same a.index _ h.0, same b.index _ h.1)
  value_of-same us vs ns same (BoolMux c a b) h = rw (same c.index _ h.0, same a.index _ h.1, same b.index _ h.2)
  value_of-same us vs ns same (Mux c a b) h = rw (same c.index _ h.0, same a.index _ h.1, same b.index _ h.2)
  value_of-same us vs ns same (Add a b) h = rw (same a.index _ h.0, same b.index _ h.1)
  value_of-same us vs ns same (Sub a b) h = rw (same a.index _ h.0, same b.index _ h.1)
  value_of-same us vs ns same (Mul a b) h = rw (same a.index _ h.0, same b.index _ h.1)
  value_of-same us vs ns same (Div a b) h = rw (same a.index _ h.0, same b.index _ h.1)
  value_of-same us vs ns same (Rem a b) h = rw (same a.index _ h.0, same b.index _ h.1)
  value_of-same us vs ns same (Lt a b) h = rw (same a.index _ h.0, same b.index _ h.1)
  value_of-same us vs ns same (Eq a b) h = rw (same a.index _ h.0, same b.index _ h.1)
  value_of-same us vs ns same CostZero h = refl
  value_of-same us vs ns same (CostAdd c g x) h = rw (same c.index _ h.0, same g.index _ h.1, same x.index _ h.2)
  value_of-same us vs ns same (CostLe c limit) h = rw (same c.index _ h)

  -- the equation of each node: its value is that of its operator on its children's values
  pub value_of_node : (ns : List Node) (i : ℕ) (n : Node) → IsWellFormed w ns → slice_get ns i ≡ Some n → value_at (values w e ns) i ≡ value_of w e (values w e ns) n
  value_of_node ns i n wf h =
      let within = slice_get_within ns i n h in
      value_at_node ns i n h
      ∙ value_of-same _ _ (take i ns) (λ j s there. value_at-take ns i j (omega (arith, slice_get_within (take i ns) j there.node there.found, length-take i ns)) (omega arith)) n (wf.each i n h)

-- ---- a graph that grows

pub Grows-refl : (a : Graph) → Grows a a
Grows-refl a = record { bits = refl; nodes = take_all (length a.nodes) a.nodes (omega arith) }

Grows-length : {a b : Graph} → Grows a b → length a.nodes ≤ length b.nodes
Grows-length {a} {b} h = omega (arith, ap length h.nodes, length-take (length a.nodes) b.nodes)

Grows-append : {a b : Graph} → Grows a b → b.nodes ≡ a.nodes ++ drop (length a.nodes) b.nodes
Grows-append {a} {b} h = sym (take-append-drop (length a.nodes) b.nodes) ∙ ap (λ l. l ++ drop (length a.nodes) b.nodes) h.nodes

pub Grows-trans : {a b c : Graph} → Grows a b → Grows b c → Grows a c
Grows-trans {a} {b} {c} h k = record {
  bits = k.bits ∙ h.bits;
  nodes = sym (take-take (length a.nodes) (length b.nodes) c.nodes (Grows-length h)) ∙ ap (take (length a.nodes)) k.nodes ∙ h.nodes;
}

-- what was there is there
pub slice_get-grows : {a b : Graph} → Grows a b → (i : ℕ) (n : Node) → slice_get a.nodes i ≡ Some n → slice_get b.nodes i ≡ Some n
slice_get-grows {a} {b} h i n p = ap (λ l. slice_get l i) (Grows-append h) ∙ slice_get_append_left a.nodes (drop (length a.nodes) b.nodes) i n p
  where
    slice_get_append_left : (xs ys : List Node) (j : ℕ) (m : Node) → slice_get xs j ≡ Some m → slice_get (xs ++ ys) j ≡ Some m
    slice_get_append_left [] ys j m q = absurd (none-some m q)
    slice_get_append_left (x ∷ xs) ys zero m q = q
    slice_get_append_left (x ∷ xs) ys (suc j) m q = slice_get_append_left xs ys j m q

pub HasSort-grows : {a b : Graph} {i : ℕ} {s : Sort} → Grows a b → HasSort a.nodes i s → HasSort b.nodes i s
HasSort-grows h k = record { node = k.node; found = slice_get-grows h _ _ k.found; sort = k.sort }

-- and keeps its value
pub value_at-grows : {a b : Graph} {i : ℕ} {s : Sort} → Grows a b → HasSort a.nodes i s → (e : Env) → value_at (graph_values b e) i ≡ value_at (graph_values a e) i
value_at-grows {a} {b} {i} {s} h k e =
    ap (λ l. value_at (values b.bits e l) i) (Grows-append h)
    ∙ ap (λ w. value_at (values w e (a.nodes ++ drop (length a.nodes) b.nodes)) i) h.bits
    ∙ value_at-append a.bits e a.nodes (drop (length a.nodes) b.nodes) i (slice_get_within a.nodes i k.node k.found)

MayFollow-grows : {a b : Graph} → Grows a b → (n : Node) → MayFollow a.bits a.nodes n → MayFollow b.bits b.nodes n
MayFollow-grows h (Flag b) k = k
MayFollow-grows {a} {b} h (Word z) k = subst (λ w. IsWord w z) (sym h.bits) k
MayFollow-grows h (HoleBit site bit) k = k
MayFollow-grows h (HoleWord site) k = k
MayFollow-grows h (InputBit i) k = k
MayFollow-grows h (InputWord i) k = k
MayFollow-grows h (Not a) k = HasSort-grows h k
MayFollow-grows h (And a b) k = (HasSort-grows h k.0, HasSort-grows h k.1)
MayFollow-grows h (Or a b) k = (HasSort-grows h k.0, HasSort-grows h k.1)
MayFollow-grows h (Xor a b) k = (HasSort-grows h k.0, HasSort-grows h k.1)
MayFollow-grows h (BoolMux c a b) k = (HasSort-grows h k.0, HasSort-grows h k.1, HasSort-grows h k.2)
MayFollow-grows h (Mux c a b) k = (HasSort-grows h k.0, HasSort-grows h k.1, HasSort-grows h k.2)
MayFollow-grows h (Add a b) k = (HasSort-grows h k.0, HasSort-grows h k.1)
MayFollow-grows h (Sub a b) k = (HasSort-grows h k.0, HasSort-grows h k.1)
MayFollow-grows h (Mul a b) k = (HasSort-grows h k.0, HasSort-grows h k.1)
MayFollow-grows h (Div a b) k = (HasSort-grows h k.0, HasSort-grows h k.1)
MayFollow-grows h (Rem a b) k = (HasSort-grows h k.0, HasSort-grows h k.1)
MayFollow-grows h (Lt a b) k = (HasSort-grows h k.0, HasSort-grows h k.1)
MayFollow-grows h (Eq a b) k = (HasSort-grows h k.0, HasSort-grows h k.1)
MayFollow-grows h CostZero k = k
MayFollow-grows h (CostAdd c g x) k = (HasSort-grows h k.0, HasSort-grows h k.1, HasSort-grows h k.2)
MayFollow-grows h (CostLe c limit) k = HasSort-grows h k

Grows-take : (a : Graph) (k : ℕ) → k ≤ length a.nodes → Grows (record { bits = a.bits; nodes = take k a.nodes }) a
Grows-take a k l = record { bits = refl; nodes = ap (λ n. take n a.nodes) (length-take-le k a.nodes l) }

MayFollow-found : (a : Graph) → IsWellFormed a.bits a.nodes → (i : ℕ) (n : Node) → slice_get a.nodes i ≡ Some n → MayFollow a.bits a.nodes n
MayFollow-found a wf i n h =
    MayFollow-grows (Grows-take a i (omega (arith, slice_get_within a.nodes i n h))) n (wf.each i n h)

pub IsWellFormed-take : (w : ℕ) (ns : List Node) (k : ℕ) → IsWellFormed w ns → k ≤ length ns → IsWellFormed w (take k ns)
IsWellFormed-take w ns k wf l = record {
  bits_low = wf.bits_low;
  bits_high = wf.bits_high;
  each = λ i n h.
      let within : i < k = omega (arith, slice_get_within (take k ns) i n h, length-take k ns) in
      subst (λ m. MayFollow w m n) (sym (take-take i k ns (omega arith))) (wf.each i n (there i n h));
  distinct = λ i j n h g. wf.distinct i j n (there i n h) (there j n g);
}
  where
    there : (i : ℕ) (n : Node) → slice_get (take k ns) i ≡ Some n → slice_get ns i ≡ Some n
    there = slice_get-grows (Grows-take (record { bits = w; nodes = ns }) k l)

pub Makes-from_added : (old new : Graph) (i : ℕ) (n : Node) → IsWellFormed old.bits old.nodes → IsWellFormed new.bits new.nodes → MayFollow old.bits old.nodes n → IsAdded old new i n → Makes old new i n
Makes-from_added old new i n before wf may h = record {
  grows = h.grows;
  found = h.found;
  alone = h.alone;
  sort = record { node = n; found = h.found; sort = refl };
  only = h.only;
  children = may;
  closed = MayFollow-found old before;
  known = h.known;
  value = λ g more e.
      value_at-grows more (record { node = n; found = h.found; sort = refl }) e
      ∙ value_of_node new.bits e new.nodes i n wf h.found
      ∙ ap (λ w. value_of w e (graph_values new e) n) h.grows.bits
      ∙ value_of-same old.bits e (graph_values new e) (graph_values g e) old.nodes
      (λ j s there. sym (value_at-grows more (HasSort-grows h.grows there) e)) n may;
}

-- ---- each word is in its range

AllWords : ℕ → List Value → Type 0
AllWords w vs = (i : ℕ) → IsWord w (as_word (value_at vs i))

zero_word : (w : ℕ) → IsWord w (pos 0)
zero_word w = record { low = omega (arith, ints); high = omega (arith, ints, half_pos w) }

AllWords-push : (w : ℕ) (vs : List Value) (v : Value) → AllWords w vs → IsWord w (as_word v) → AllWords w (vs ++ v ∷ [])
unfolding AllWords
AllWords-push w vs v all one i =
    ⊎_elim
    (λ (l : i < length vs). rw (get_or_append_left vs (v ∷ []) (Bit false) i l) (all i))
    (λ (l : length vs ≤ i).
    ⊎_elim
    (λ (s : i ≡ length vs). rw (get_or_at vs v [] (Bit false) i (sym s)) one)
    (λ (m : length vs < i). rw (get_or_past (vs ++ v ∷ []) i (Bit false) (omega (arith, length-append vs (v ∷ [])))) (zero_word w))
    (same_or_above (length vs) i l))
    (cases_lt i (length vs))
  where
    same_or_above : (m n : ℕ) → m ≤ n → (n ≡ m) ⊎ (m < n)
    same_or_above m n l = ⊎_elim (λ (k : m < n). inr k) (λ (k : n ≤ m). inl (omega arith)) (cases_lt m n)

choose_word : (w : ℕ) (b : Bool) (x y : ℤ) → IsWord w x → IsWord w y → IsWord w (if b then x else y)
choose_word w true x y p q = p
choose_word w false x y p q = q

value_of-word : (w : ℕ) (e : Env) (vs : List Value) (ns : List Node) → AllWords w vs → (n : Node) → MayFollow w ns n → IsWord w (as_word (value_of w e vs n))
unfolding value_of AllWords
value_of-word w e vs ns all (Flag b) h = zero_word w
value_of-word w e vs ns all (Word z) h = h
value_of-word w e vs ns all (HoleBit site k) h = zero_word w
value_of-word w e vs ns all (HoleWord site) h = IsWord-wrapped w _
value_of-word w e vs ns all (InputBit i) h = zero_word w
value_of-word w e vs ns all (InputWord i) h = IsWord-wrapped w _
value_of-word w e vs ns all (Not a) h = zero_word w
value_of-word w e vs ns all (And a b) h = zero_word w
value_of-word w e vs ns all (Or a b) h = zero_word w
value_of-word w e vs ns all (Xor a b) h = zero_word w
value_of-word w e vs ns all (BoolMux c a b) h = zero_word w
value_of-word w e vs ns all (Mux c a b) h = choose_word w _ _ _ (all a.index) (all b.index)
value_of-word w e vs ns all (Add a b) h = IsWord-wrapped w _
value_of-word w e vs ns all (Sub a b) h = IsWord-wrapped w _
value_of-word w e vs ns all (Mul a b) h = IsWord-wrapped w _
value_of-word w e vs ns all (Div a b) h = choose_word w _ _ _ (zero_word w) (IsWord-wrapped w _)
value_of-word w e vs ns all (Rem a b) h = choose_word w _ _ _ (zero_word w) (IsWord-wrapped w _)
value_of-word w e vs ns all (Lt a b) h = zero_word w
value_of-word w e vs ns all (Eq a b) h = zero_word w
value_of-word w e vs ns all CostZero h = zero_word w
value_of-word w e vs ns all (CostAdd c g x) h = zero_word w
value_of-word w e vs ns all (CostLe c limit) h = zero_word w

values-words : (w : ℕ) (e : Env) (ns : List Node) → IsWellFormed w ns → (k : ℕ) → k ≤ length ns → AllWords w (values w e (take k ns))
unfolding values AllWords
values-words w e ns wf zero l = λ i. zero_word w
values-words w e ns wf (suc k) l =
    let d : Node = CostZero in
    let more : values w e (take (k + 1) ns) ≡ values w e (take k ns) ++ value_of w e (values w e (take k ns)) (get_or ns k d) ∷ [] = values_more w e ns k d (omega arith) in
    let there : slice_get ns k ≡ Some (get_or ns k d) = slice_get-get_or ns k d (omega arith) in
    let before = values-words w e ns wf k (omega arith) in
    let one : k + 1 ≡ suc k = omega arith in
    subst (λ n. AllWords w (values w e (take n ns))) one
    (subst (AllWords w) (sym more) (AllWords-push w _ _ before (value_of-word w e _ (take k ns) before _ (wf.each k _ there))))

pub HoldsMachineWords-values : (w : ℕ) (e : Env) (ns : List Node) → IsWellFormed w ns → (k : ℕ) → k ≤ length ns → HoldsMachineWords (values w e (take k ns))
unfolding AllWords
HoldsMachineWords-values w e ns wf k l = record { each = λ i. let h = values-words w e ns wf k l i in let b = half_le w wf.bits_high in record { low = omega (arith, ints, h.low); high = omega (arith, ints, h.high) } }

-- in the words of contracts
pub bool_value-grows : {a b : Graph} {x : BoolId} → Grows a b → HasBool a.nodes x → (e : Env) → bool_value b e x ≡ bool_value a e x
unfolding bool_value
bool_value-grows h k e = ap as_bool (value_at-grows h k e)

pub word_value-grows : {a b : Graph} {x : WordId} → Grows a b → HasWord a.nodes x → (e : Env) → word_value b e x ≡ word_value a e x
unfolding word_value
word_value-grows h k e = ap as_word (value_at-grows h k e)

pub cost_value-grows : {a b : Graph} {x : CostId} → Grows a b → HasCost a.nodes x → (e : Env) → cost_value b e x ≡ cost_value a e x
unfolding cost_value
cost_value-grows h k e = ap as_cost (value_at-grows h k e)

-- what a caller of several makers cites
pub ruleset growing = (Grows-refl, Grows-trans)

pub ruleset staying = (HasSort-grows)

pub Keeps-grows : {a b : Graph} → Grows a b → Keeps a b
Keeps-grows h = record { later = λ g k. Grows-trans h k; sorts = λ i s k. HasSort-grows h k }

-- what a new node is worth from then on, by its sort
pub made_bool : {old new : Graph} {x : BoolId} {n : Node} → Makes old new x.index n → (g : Graph) → Grows new g → (e : Env) → bool_value g e x ≡ as_bool (value_of old.bits e (graph_values g e) n)
unfolding bool_value
made_bool m g h e = ap as_bool (m.value g h e)

pub made_word : {old new : Graph} {x : WordId} {n : Node} → Makes old new x.index n → (g : Graph) → Grows new g → (e : Env) → word_value g e x ≡ as_word (value_of old.bits e (graph_values g e) n)
unfolding word_value
made_word m g h e = ap as_word (m.value g h e)

pub made_cost : {old new : Graph} {x : CostId} {n : Node} → Makes old new x.index n → (g : Graph) → Grows new g → (e : Env) → cost_value g e x ≡ as_cost (value_of old.bits e (graph_values g e) n)
unfolding cost_value
made_cost m g h e = ap as_cost (m.value g h e)

pub ruleset made = (made_bool, made_word, made_cost, made_by)

-- the width stays
pub Keeps-bits : {a b : Graph} → Keeps a b → b.bits ≡ a.bits
Keeps-bits {a} {b} h = (h.later b (Grows-refl b)).bits

-- several steps in one
pub Keeps-trans : {a b c : Graph} → Keeps a b → Keeps b c → Keeps a c
Keeps-trans h k = record { later = λ g l. h.later g (k.later g l); sorts = λ i s l. k.sorts i s (h.sorts i s l) }

pub Keeps_four : {a b c d e : Graph} → Keeps a b → Keeps b c → Keeps c d → Keeps d e → Keeps a e
Keeps_four h k l m = Keeps-trans (Keeps-trans h k) (Keeps-trans l m)

-- ---- a node that is read

-- its value is in range
value_at-word : {a g : Graph} (i : ℕ) (n : Node) → IsWellFormed a.bits a.nodes → slice_get a.nodes i ≡ Some n → Grows a g → (e : Env) → IsWord a.bits (as_word (value_at (graph_values g e) i))
unfolding AllWords
value_at-word {a} i n wf h more e =
    let all = values-words a.bits e a.nodes wf (length a.nodes) (omega arith) i in
    let whole : take (length a.nodes) a.nodes ≡ a.nodes = take_all (length a.nodes) a.nodes (omega arith) in
    subst (λ v. IsWord a.bits (as_word v)) (sym (value_at-grows more (record { node = n; found = h; sort = refl }) e))
    (subst (λ l. IsWord a.bits (as_word (value_at (values a.bits e l) i))) whole all)

value_of-shaped : (w : ℕ) (e : Env) (vs : List Value) (n : Node) → IsShaped (sort_of n) (value_of w e vs n)
unfolding value_of
value_of-shaped w e vs (Flag b) = refl
value_of-shaped w e vs (Word z) = refl
value_of-shaped w e vs (HoleBit site k) = refl
value_of-shaped w e vs (HoleWord site) = refl
value_of-shaped w e vs (InputBit i) = refl
value_of-shaped w e vs (InputWord i) = refl
value_of-shaped w e vs (Not a) = refl
value_of-shaped w e vs (And a b) = refl
value_of-shaped w e vs (Or a b) = refl
value_of-shaped w e vs (Xor a b) = refl
value_of-shaped w e vs (BoolMux c a b) = refl
value_of-shaped w e vs (Mux c a b) = refl
value_of-shaped w e vs (Add a b) = refl
value_of-shaped w e vs (Sub a b) = refl
value_of-shaped w e vs (Mul a b) = refl
value_of-shaped w e vs (Div a b) = refl
value_of-shaped w e vs (Rem a b) = refl
value_of-shaped w e vs (Lt a b) = refl
value_of-shaped w e vs (Eq a b) = refl
value_of-shaped w e vs CostZero = refl
value_of-shaped w e vs (CostAdd c g x) = refl
value_of-shaped w e vs (CostLe c limit) = refl

-- and of its sort
pub value_at-shaped : {a g : Graph} (i : ℕ) (s : Sort) → IsWellFormed a.bits a.nodes → HasSort a.nodes i s → Grows a g → (e : Env) → IsShaped s (value_at (graph_values g e) i)
value_at-shaped {a} {g} i s wf there more e =
    subst (λ t. IsShaped t (value_at (graph_values g e) i)) there.sort
    (subst (IsShaped (sort_of there.node)) (sym (value_at-grows more there e ∙ value_of_node a.bits e a.nodes i there.node wf there.found))
    (value_of-shaped a.bits e (graph_values a e) there.node))

pub IsNode-found : (a : Graph) (i : ℕ) (n : Node) → IsWellFormed a.bits a.nodes → slice_get a.nodes i ≡ Some n → IsNode a i n
IsNode-found a i n wf h =
    let may = MayFollow-found a wf i n h in
    record {
      found = h;
      only = λ k there. wf.distinct k i n there h;
      before = wf.each i n h;
      children = may;
      value = λ g more e.
          value_at-grows more (record { node = n; found = h; sort = refl }) e
          ∙ value_of_node a.bits e a.nodes i n wf h
          ∙ value_of-same a.bits e (graph_values a e) (graph_values g e) a.nodes (λ j s there. sym (value_at-grows more there e)) n may;
      range = λ g more e. value_at-word i n wf h more e;
    }

pub read_bool : {a : Graph} {x : BoolId} {n : Node} → IsNode a x.index n → (g : Graph) → Grows a g → (e : Env) → bool_value g e x ≡ as_bool (value_of a.bits e (graph_values g e) n)
unfolding bool_value
read_bool m g h e = ap as_bool (m.value g h e)

pub read_word : {a : Graph} {x : WordId} {n : Node} → IsNode a x.index n → (g : Graph) → Grows a g → (e : Env) → word_value g e x ≡ as_word (value_of a.bits e (graph_values g e) n)
unfolding word_value
read_word m g h e = ap as_word (m.value g h e)

pub read_cost : {a : Graph} {x : CostId} {n : Node} → IsNode a x.index n → (g : Graph) → Grows a g → (e : Env) → cost_value g e x ≡ as_cost (value_of a.bits e (graph_values g e) n)
unfolding cost_value
read_cost m g h e = ap as_cost (m.value g h e)
