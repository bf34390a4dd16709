-- Marks of the nodes below some roots, and copies of nodes.
use Rattle.std.proofs.Common.{◌≡◌, ℕ, zero, suc, ◌+◌, ◌<◌, ◌≤◌, Bool, true, false, List, [], ◌∷◌, ◌++◌, Some, length, take, slice_get, slice_set, slice_index, get_or, All, Contains, refl, sym, ap, subst, ◌∙◌, arith, ◌⊎◌, ⊎_elim, inl, inr, replicate, true≢false, IsTrue}
use Rattle.std.proofs.lemmas.List.{get_or_append_left, get_or_at, length-append, length-take, length-replicate}
use Rattle.std.proofs.lemmas.Option.{none-some, same_Some, slice_get_within, get_or_from_slice_get, slice_get-get_or}
use Rattle.std.proofs.lemmas.Bool.{cases_lt}
use Rattle.sk_dag.specs.declared.env.Env.{Env}
use Rattle.sk_dag.specs.declared.node.BoolId.{BoolId}
use Rattle.sk_dag.specs.declared.node.Node.{Node}
use Rattle.sk_dag.specs.declared.node.Node.TheVariants.{Flag, Word, HoleBit, HoleWord, InputBit, InputWord, Not, And, Or, Xor, BoolMux, Mux, Add, Sub, Mul, Div, Rem, Lt, Eq, CostZero, CostAdd, CostLe}
use Rattle.sk_dag.specs.declared.value.Value.{Value}
use Rattle.sk_dag.specs.Graph.{Graph, Grows, HasSort, HasBool, Sort, sort_of, MayFollow}
use Rattle.sk_dag.specs.Eval.{Makes, Keeps, IsNode, value_at, value_of, graph_values, as_bool, bool_value}
use Rattle.sk_dag.specs.Reach.{children, Each, Reaches, root, child, with_marks, IsMarked, MarksReached, IsClosed, new_bool, renumbered, StandsFor, StandForMarked, AddsAtMost, CopiesMarked, OnlyMarked, IsCopied}
use Rattle.sk_dag.proofs.EvalLemmas.{Grows-refl, Grows-trans, slice_get-grows}

-- ---- lists of children

pub each_of : (P : ℕ → Type 0) (xs : List ℕ) (x : ℕ) → Each P xs → Contains xs x → P x
each_of P [] x h c = absurd (omega (arith, c.1))
each_of P (y ∷ ys) x h (zero, l, e) = subst P e h.0
each_of P (y ∷ ys) x h (suc k, l, e) = each_of P ys x h.1 (k, omega (arith, l), e)

pub each_all : (P : ℕ → Type 0) (xs : List ℕ) → ((x : ℕ) → Contains xs x → P x) → Each P xs
each_all P [] h = tt
each_all P (y ∷ ys) h = (h y (0, omega arith, refl), each_all P ys (λ x c. h x (suc c.0, omega (arith, c.1), c.2)))

pub each_map : (P Q : ℕ → Type 0) (xs : List ℕ) → ((x : ℕ) → P x → Q x) → Each P xs → Each Q xs
each_map P Q [] f h = tt
each_map P Q (y ∷ ys) f h = (f y h.0, each_map P Q ys f h.1)

pub each_at : (P : ℕ → Type 0) (xs : List ℕ) → ((k : ℕ) → k < length xs → P (get_or xs k 0)) → Each P xs
each_at P [] h = tt
each_at P (y ∷ ys) h = (h 0 (omega arith), each_at P ys (λ k l. h (suc k) (omega (arith, l))))

-- the children of a node that may follow others are among them
pub children_there : (w : ℕ) (ns : List Node) (n : Node) → MayFollow w ns n → Each (λ c. c < length ns) (children n)
children_there w ns n h = by n h
  where
    in_list : {i : ℕ} {s : Sort} → HasSort ns i s → i < length ns
    in_list k = slice_get_within ns _ k.node k.found

    by : (m : Node) → MayFollow w ns m → Each (λ c. c < length ns) (children m)
    by (Flag b) k = tt
    by (Word z) k = tt
    by (HoleBit site i) k = tt
    by (HoleWord site) k = tt
    by (InputBit i) k = tt
    by (InputWord i) k = tt
    by (Not a) k = (in_list k, tt)
    by (And a b) k = (in_list k.0, (in_list k.1, tt))
    by (Or a b) k = (in_list k.0, (in_list k.1, tt))
    by (Xor a b) k = (in_list k.0, (in_list k.1, tt))
    by (BoolMux c a b) k = (in_list k.0, (in_list k.1, (in_list k.2, tt)))
    by (Mux c a b) k = (in_list k.0, (in_list k.1, (in_list k.2, tt)))
    by (Add a b) k = (in_list k.0, (in_list k.1, tt))
    by (Sub a b) k = (in_list k.0, (in_list k.1, tt))
    by (Mul a b) k = (in_list k.0, (in_list k.1, tt))
    by (Div a b) k = (in_list k.0, (in_list k.1, tt))
    by (Rem a b) k = (in_list k.0, (in_list k.1, tt))
    by (Lt a b) k = (in_list k.0, (in_list k.1, tt))
    by (Eq a b) k = (in_list k.0, (in_list k.1, tt))
    by CostZero k = tt
    by (CostAdd c g x) k = (in_list k.0, (in_list k.1, (in_list k.2, tt)))
    by (CostLe c limit) k = (in_list k, tt)

-- ---- marks

set_same : (ms : List Bool) (i : ℕ) → i < length ms → slice_get (slice_set ms i true) i ≡ Some true
set_same [] i l = absurd (omega (arith, l))
set_same (m ∷ ms) zero l = refl
set_same (m ∷ ms) (suc i) l = set_same ms i (omega (arith, l))

set_stays : (ms : List Bool) (i k : ℕ) → IsMarked ms k → IsMarked (slice_set ms i true) k
set_stays [] i k h = absurd (none-some true h)
set_stays (m ∷ ms) zero zero h = refl
set_stays (m ∷ ms) zero (suc k) h = h
set_stays (m ∷ ms) (suc i) zero h = h
set_stays (m ∷ ms) (suc i) (suc k) h = set_stays ms i k h

set_only : (ms : List Bool) (i k : ℕ) → IsMarked (slice_set ms i true) k → IsMarked ms k ⊎ (i ≡ k)
set_only [] i k h = inl h
set_only (m ∷ ms) zero zero h = inr refl
set_only (m ∷ ms) zero (suc k) h = inl h
set_only (m ∷ ms) (suc i) zero h = inl h
set_only (m ∷ ms) (suc i) (suc k) h = ⊎_elim (λ p. inl p) (λ p. inr (ap suc p)) (set_only ms i k h)

length_set : (ms : List Bool) (i : ℕ) → length (slice_set ms i true) ≡ length ms
length_set [] i = refl
length_set (m ∷ ms) zero = refl
length_set (m ∷ ms) (suc i) = ap suc (length_set ms i)

module _ {X : Type 0} (f : X → ℕ) where
  pub length-with_marks : (xs : List X) (ms : List Bool) → length (with_marks f xs ms) ≡ length ms
  length-with_marks [] ms = refl
  length-with_marks (x ∷ xs) ms = length-with_marks xs (slice_set ms (f x) true) ∙ length_set ms (f x)

  pub marked_stays : (xs : List X) (ms : List Bool) (k : ℕ) → IsMarked ms k → IsMarked (with_marks f xs ms) k
  marked_stays [] ms k h = h
  marked_stays (x ∷ xs) ms k h = marked_stays xs (slice_set ms (f x) true) k (set_stays ms (f x) k h)

  pub marked_new : (xs : List X) (ms : List Bool) (x : X) → Contains xs x → f x < length ms → IsMarked (with_marks f xs ms) (f x)
  marked_new [] ms x c l = absurd (omega (arith, c.1))
  marked_new (y ∷ ys) ms x (zero, k, e) l =
      marked_stays ys (slice_set ms (f y) true) (f x) (subst (λ z. IsMarked (slice_set ms (f z) true) (f x)) (sym e) (set_same ms (f x) l))
  marked_new (y ∷ ys) ms x (suc i, k, e) l =
      marked_new ys (slice_set ms (f y) true) x (i, omega (arith, k), e) (omega (arith, l, length_set ms (f y)))

  pub marked_only : (xs : List X) (ms : List Bool) (k : ℕ) → IsMarked (with_marks f xs ms) k → IsMarked ms k ⊎ ((x : X) × Contains xs x × (f x ≡ k))
  marked_only [] ms k h = inl h
  marked_only (x ∷ xs) ms k h =
      ⊎_elim
      (λ p. ⊎_elim (λ q. inl q) (λ q. inr (x, (0, omega arith, refl), q)) (set_only ms (f x) k p))
      (λ p. inr (p.0, (suc p.1.0, omega (arith, p.1.1), p.1.2), p.2))
      (marked_only xs (slice_set ms (f x) true) k h)

-- marks that hold the roots, only what the roots reach, and the children of each marked node from i on
pub record MarksFrom (nodes : List Node) (roots : List BoolId) (marks : List Bool) (i : ℕ) : Type 0 where
  pub long : length marks ≡ length nodes
  pub first : (r : BoolId) → Contains roots r → IsMarked marks r.index
  pub closed : (j : ℕ) (n : Node) → i ≤ j → slice_get nodes j ≡ Some n → IsMarked marks j → Each (IsMarked marks) (children n)
  pub only : (j : ℕ) → IsMarked marks j → Reaches nodes roots j

pub MarksFrom-start : (nodes : List Node) (roots : List BoolId) → All (λ r. r.index < length nodes) roots → MarksFrom nodes roots (with_marks (λ (r : BoolId). r.index) roots (replicate (length nodes) false)) (length nodes)
MarksFrom-start nodes roots all = record {
  long = length-with_marks (λ (r : BoolId). r.index) roots fresh ∙ length-replicate (length nodes) false;
  first = λ r c. marked_new (λ (q : BoolId). q.index) roots fresh r c (omega (arith, within r c, length-replicate (length nodes) false));
  closed = λ j n l h m. absurd (omega (arith, slice_get_within nodes j n h));
  only = λ j m.
      ⊎_elim (λ p. absurd (unmarked (length nodes) j p)) (λ p. subst (Reaches nodes roots) p.2 (root p.0 p.1))
      (marked_only (λ (r : BoolId). r.index) roots fresh j m);
}
  where
    within : (r : BoolId) → Contains roots r → r.index < length nodes
    within r c = subst (λ (q : BoolId). q.index < length nodes) c.2 (all c.0 r c.1)

    fresh : List Bool
    fresh = replicate (length nodes) false

    unmarked : (n k : ℕ) → IsMarked (replicate n false) k → ⊥
    unmarked zero k h = none-some true h
    unmarked (suc n) zero h = true≢false (sym (same_Some false true h))
    unmarked (suc n) (suc k) h = unmarked n k h

-- a node with no mark
pub MarksFrom-unmarked : (nodes : List Node) (roots : List BoolId) (marks : List Bool) (i : ℕ) → MarksFrom nodes roots marks (suc i) → get_or marks i false ≡ false → MarksFrom nodes roots marks i
MarksFrom-unmarked nodes roots marks i h none = record {
  long = h.long;
  first = h.first;
  closed = λ j n l at m.
      ⊎_elim (λ (below : i < j). h.closed j n (omega arith) at m)
      (λ (above : j ≤ i).
      let e : j ≡ i = omega arith in
      absurd (true≢false (sym (get_or_from_slice_get marks j true false m) ∙ ap (λ k. get_or marks k false) e ∙ none)))
      (cases_lt i j);
  only = h.only;
}

-- a marked node, whose children are marked now
pub MarksFrom-marked : (nodes : List Node) (roots : List BoolId) (marks : List Bool) (i : ℕ) (n : Node) → MarksFrom nodes roots marks (suc i) → slice_get nodes i ≡ Some n → Each (λ c. c < i) (children n) → IsMarked marks i → MarksFrom nodes roots (with_marks (λ c. c) (children n) marks) i
MarksFrom-marked nodes roots marks i n h at below here = record {
  long = length-with_marks (λ c. c) (children n) marks ∙ h.long;
  first = λ r c. stays r.index (h.first r c);
  closed = closed;
  only = λ j m.
      ⊎_elim (λ p. h.only j p) (λ p. subst (Reaches nodes roots) p.2 (child i p.0 n (h.only i here) at p.1))
      (marked_only (λ c. c) (children n) marks j m);
}
  where
    stays : (k : ℕ) → IsMarked marks k → IsMarked (with_marks (λ c. c) (children n) marks) k
    stays = marked_stays (λ c. c) (children n) marks

    -- no mark from i on is new
    old : (j : ℕ) → i ≤ j → IsMarked (with_marks (λ c. c) (children n) marks) j → IsMarked marks j
    old j l m =
        ⊎_elim (λ p. p) (λ p. let b : p.0 < i = each_of _ (children n) p.0 below p.1 in let e : p.0 ≡ j = p.2 in absurd (omega arith))
        (marked_only (λ c. c) (children n) marks j m)

    here_closed : Each (IsMarked (with_marks (λ c. c) (children n) marks)) (children n)
    here_closed =
        each_all _ (children n) (λ c k. marked_new (λ x. x) (children n) marks c k (omega (arith, each_of _ (children n) c below k, slice_get_within marks i true here)))

    closed : (j : ℕ) (m : Node) → i ≤ j → slice_get nodes j ≡ Some m → IsMarked (with_marks (λ c. c) (children n) marks) j → Each (IsMarked (with_marks (λ c. c) (children n) marks)) (children m)
    closed j m l there mark =
        ⊎_elim
        (λ (above : i < j). each_map _ _ (children m) stays (h.closed j m (omega arith) there (old j l mark)))
        (λ (same : j ≤ i).
        let e : j ≡ i = omega arith in
        let q : n ≡ m = same_Some n m (sym at ∙ ap (slice_get nodes) (sym e) ∙ there) in
        subst (λ k. Each (IsMarked (with_marks (λ c. c) (children n) marks)) (children k)) q here_closed)
        (cases_lt i j)

pub MarksReached-done : (nodes : List Node) (roots : List BoolId) (marks : List Bool) → MarksFrom nodes roots marks 0 → MarksReached nodes roots marks
MarksReached-done nodes roots marks h = record { length = h.long; exact = λ i. (h.only i, all i) }
  where
    all : (i : ℕ) → Reaches nodes roots i → IsMarked marks i
    all _ (root r c) = h.first r c
    all _ (child i j n reached at c) = each_of _ (children n) j (h.closed i n (omega arith) at (all i reached)) c

-- ---- copies

sort-renumbered : (m : List ℕ) (n : Node) → sort_of (renumbered m n) ≡ sort_of n
sort-renumbered m (Flag b) = refl
sort-renumbered m (Word z) = refl
sort-renumbered m (HoleBit site k) = refl
sort-renumbered m (HoleWord site) = refl
sort-renumbered m (InputBit i) = refl
sort-renumbered m (InputWord i) = refl
sort-renumbered m (Not a) = refl
sort-renumbered m (And a b) = refl
sort-renumbered m (Or a b) = refl
sort-renumbered m (Xor a b) = refl
sort-renumbered m (BoolMux c a b) = refl
sort-renumbered m (Mux c a b) = refl
sort-renumbered m (Add a b) = refl
sort-renumbered m (Sub a b) = refl
sort-renumbered m (Mul a b) = refl
sort-renumbered m (Div a b) = refl
sort-renumbered m (Rem a b) = refl
sort-renumbered m (Lt a b) = refl
sort-renumbered m (Eq a b) = refl
sort-renumbered m CostZero = refl
sort-renumbered m (CostAdd c g x) = refl
sort-renumbered m (CostLe c limit) = refl

-- a copy may follow the copies of its children
pub MayFollow-renumbered : (w : ℕ) (ns ms : List Node) (m : List ℕ) (n : Node) → Each (λ c. (s : Sort) → HasSort ns c s → HasSort ms (slice_index m c) s) (children n) → MayFollow w ns n → MayFollow w ms (renumbered m n)
MayFollow-renumbered w ns ms m (Flag b) e h = h
MayFollow-renumbered w ns ms m (Word z) e h = h
MayFollow-renumbered w ns ms m (HoleBit site k) e h = h
MayFollow-renumbered w ns ms m (HoleWord site) e h = h
MayFollow-renumbered w ns ms m (InputBit i) e h = h
MayFollow-renumbered w ns ms m (InputWord i) e h = h
MayFollow-renumbered w ns ms m (Not a) e h = e.0 _ h
MayFollow-renumbered w ns ms m (And a b) e h = (e.0 _ h.0, e.1.0 _ h.1)
MayFollow-renumbered w ns ms m (Or a b) e h = (e.0 _ h.0, e.1.0 _ h.1)
MayFollow-renumbered w ns ms m (Xor a b) e h = (e.0 _ h.0, e.1.0 _ h.1)
MayFollow-renumbered w ns ms m (BoolMux c a b) e h = (e.0 _ h.0, e.1.0 _ h.1, e.1.1.0 _ h.2)
MayFollow-renumbered w ns ms m (Mux c a b) e h = (e.0 _ h.0, e.1.0 _ h.1, e.1.1.0 _ h.2)
MayFollow-renumbered w ns ms m (Add a b) e h = (e.0 _ h.0, e.1.0 _ h.1)
MayFollow-renumbered w ns ms m (Sub a b) e h = (e.0 _ h.0, e.1.0 _ h.1)
MayFollow-renumbered w ns ms m (Mul a b) e h = (e.0 _ h.0, e.1.0 _ h.1)
MayFollow-renumbered w ns ms m (Div a b) e h = (e.0 _ h.0, e.1.0 _ h.1)
MayFollow-renumbered w ns ms m (Rem a b) e h = (e.0 _ h.0, e.1.0 _ h.1)
MayFollow-renumbered w ns ms m (Lt a b) e h = (e.0 _ h.0, e.1.0 _ h.1)
MayFollow-renumbered w ns ms m (Eq a b) e h = (e.0 _ h.0, e.1.0 _ h.1)
MayFollow-renumbered w ns ms m CostZero e h = h
MayFollow-renumbered w ns ms m (CostAdd c g x) e h = (e.0 _ h.0, e.1.0 _ h.1, e.1.1.0 _ h.2)
MayFollow-renumbered w ns ms m (CostLe c limit) e h = e.0 _ h

-- and has the value of the node where these have their children's
pub value_of-renumbered : (w : ℕ) (e : Env) (us vs : List Value) (m : List ℕ) (n : Node) → Each (λ c. value_at us (slice_index m c) ≡ value_at vs c) (children n) → value_of w e us (renumbered m n) ≡ value_of w e vs n
unfolding value_of
value_of-renumbered w e us vs m (Flag b) h = refl
value_of-renumbered w e us vs m (Word z) h = refl
value_of-renumbered w e us vs m (HoleBit site k) h = refl
value_of-renumbered w e us vs m (HoleWord site) h = refl
value_of-renumbered w e us vs m (InputBit i) h = refl
value_of-renumbered w e us vs m (InputWord i) h = refl
value_of-renumbered w e us vs m (Not a) h = rw h.0
value_of-renumbered w e us vs m (And a b) h = rw (h.0, h.1.0)
value_of-renumbered w e us vs m (Or a b) h = rw (h.0, h.1.0)
value_of-renumbered w e us vs m (Xor a b) h = rw (h.0, h.1.0)
value_of-renumbered w e us vs m (BoolMux c a b) h = rw (h.0, h.1.0, h.1.1.0)
value_of-renumbered w e us vs m (Mux c a b) h = rw (h.0, h.1.0, h.1.1.0)
value_of-renumbered w e us vs m (Add a b) h = rw (h.0, h.1.0)
value_of-renumbered w e us vs m (Sub a b) h = rw (h.0, h.1.0)
value_of-renumbered w e us vs m (Mul a b) h = rw (h.0, h.1.0)
value_of-renumbered w e us vs m (Div a b) h = rw (h.0, h.1.0)
value_of-renumbered w e us vs m (Rem a b) h = rw (h.0, h.1.0)
value_of-renumbered w e us vs m (Lt a b) h = rw (h.0, h.1.0)
value_of-renumbered w e us vs m (Eq a b) h = rw (h.0, h.1.0)
value_of-renumbered w e us vs m CostZero h = refl
value_of-renumbered w e us vs m (CostAdd c g x) h = rw (h.0, h.1.0, h.1.1.0)
value_of-renumbered w e us vs m (CostLe c limit) h = rw h.0

pub StandsFor-keeps : {from a b : Graph} {i j : ℕ} → Keeps a b → StandsFor from a i j → StandsFor from b i j
StandsFor-keeps k h = record { sorts = λ s there. k.sorts _ s (h.sorts s there); value = λ g more. h.value g (k.later g more) }

-- the children of each node stand before it
pub children_before : (w : ℕ) (ns : List Node) (i : ℕ) (n : Node) → MayFollow w (take i ns) n → Each (λ c. c < i) (children n)
children_before w ns i n h =
    each_map _ _ (children n) (λ c (l : c < length (take i ns)). omega (arith, length-take i ns)) (children_there w (take i ns) n h)

-- a node and the numbers that stand for its marked children
module _ {from a : Graph} (marks : List Bool) (numbers : List ℕ) (i : ℕ) (n : Node)
    (closed : IsClosed from.nodes marks) (bits : from.bits ≡ a.bits) (node : IsNode from i n)
    (copied : StandForMarked from a marks numbers i) where
  pub copy_within : Each (λ c. c < length numbers) (children n)
  copy_within = each_map _ _ (children n) (λ c (l : c < i). omega (arith, copied.length)) (children_before from.bits from.nodes i n node.before)

  module _ (mark : IsMarked marks i) where
    child_stands : (c : ℕ) → Contains (children n) c → StandsFor from a c (slice_index numbers c)
    child_stands c k =
        copied.each c (each_of _ (children n) c (children_before from.bits from.nodes i n node.before) k)
        (each_of _ (children n) c (closed.marked i n node.found mark) k)

    -- the copy may follow
    pub copy_may : MayFollow a.bits a.nodes (renumbered numbers n)
    copy_may =
        MayFollow-renumbered a.bits from.nodes a.nodes numbers n (each_all _ (children n) (λ c k. (child_stands c k).sorts))
        (subst (λ w. MayFollow w from.nodes n) bits node.children)

    -- its sort is that of the node
    pub copy_sort : (s : Sort) → HasSort from.nodes i s → sort_of (renumbered numbers n) ≡ s
    copy_sort s there =
        let same : there.node ≡ n = same_Some _ _ (sym there.found ∙ node.found) in
        sort-renumbered numbers n ∙ ap sort_of (sym same) ∙ there.sort

    -- and its value is that of the node
    pub copy_value : (g : Graph) → Grows a g → (e : Env) → value_of a.bits e (graph_values g e) (renumbered numbers n) ≡ value_at (graph_values from e) i
    copy_value g more e =
        value_of-renumbered a.bits e (graph_values g e) (graph_values from e) numbers n (each_all _ (children n) (λ c k. (child_stands c k).value g more e))
        ∙ ap (λ w. value_of w e (graph_values from e) n) (sym bits)
        ∙ sym (node.value from (Grows-refl from) e)

    pub StandsFor-made : {b : Graph} {j : ℕ} → Makes a b j (renumbered numbers n) → StandsFor from b i j
    StandsFor-made {b} {j} made = record {
      sorts = λ s there. subst (HasSort b.nodes j) (copy_sort s there) made.sort;
      value = λ g more e. made.value g more e ∙ copy_value g (Grows-trans made.grows more) e;
    }

-- one more number
pub StandForMarked-push : {from a b : Graph} (marks : List Bool) (numbers : List ℕ) (i j : ℕ) → Keeps a b → StandForMarked from a marks numbers i → (IsMarked marks i → StandsFor from b i j) → StandForMarked from b marks (numbers ++ j ∷ []) (i + 1)
StandForMarked-push {from} {a} {b} marks numbers i j keeps copied new = record {
  length = length-append numbers (j ∷ []) ∙ omega (arith, copied.length);
  each = λ k l mark.
      ⊎_elim
      (λ (below : k < i).
      subst (StandsFor from b k) (sym (get_or_append_left numbers (j ∷ []) 0 k (omega (arith, copied.length)))) (StandsFor-keeps keeps (copied.each k below mark)))
      (λ (above : i ≤ k).
      let e : i ≡ k = omega arith in
      let at : slice_index (numbers ++ j ∷ []) k ≡ j = get_or_at numbers j [] 0 k (omega (arith, copied.length)) in
      subst (StandsFor from b k) (sym at) (subst (λ q. StandsFor from b q j) e (new (subst (IsMarked marks) (sym e) mark))))
      (cases_lt k i);
}

pub StandForMarked-none : (from a : Graph) (marks : List Bool) → StandForMarked from a marks [] 0
StandForMarked-none from a marks = record { length = refl; each = λ i l. absurd (omega (arith, l)) }

-- marks of what some roots reach are closed
pub IsClosed-reached : (nodes : List Node) (roots : List BoolId) (marks : List Bool) → MarksReached nodes roots marks → IsClosed nodes marks
IsClosed-reached nodes roots marks h = record {
  length = h.length;
  marked = λ i n at mark. each_all _ (children n) (λ c k. (h.exact c).1 (child i c n ((h.exact i).0 mark) at k));
}

-- the roots are marked
pub root_marked : (nodes : List Node) (roots : List BoolId) (marks : List Bool) → MarksReached nodes roots marks → (r : BoolId) → Contains roots r → IsMarked marks r.index
root_marked nodes roots marks h r c = (h.exact r.index).1 (root r c)

pub marked_here : (marks : List Bool) (i : ℕ) → i < length marks → get_or marks i false ≡ true → IsMarked marks i
marked_here marks i l h = slice_get-get_or marks i false l ∙ ap Some h

pub true_here : (marks : List Bool) (i : ℕ) → IsMarked marks i → get_or marks i false ≡ true
true_here marks i m = get_or_from_slice_get marks i true false m

-- the number that stands for a root
pub root_stands : {from into : Graph} (marks : List Bool) (numbers : List ℕ) (r : BoolId) → MarksReached from.nodes (r ∷ []) marks → StandForMarked from into marks numbers (length from.nodes) → HasBool from.nodes r → StandsFor from into r.index (slice_index numbers r.index)
root_stands marks numbers r reached copied there =
    copied.each r.index (slice_get_within _ r.index there.node there.found) (root_marked _ _ marks reached r (0, omega arith, refl))

pub StandsFor-bool : {from into : Graph} (numbers : List ℕ) (a : BoolId) → StandsFor from into a.index (slice_index numbers a.index) → (g : Graph) → Grows into g → (e : Env) → bool_value g e (new_bool numbers a) ≡ bool_value from e a
unfolding bool_value
StandsFor-bool numbers a h g more e = ap as_bool (h.value g more e)

-- ---- what is copied, and nothing else

-- a copy is the same over lists that agree on the children
renumbered-same : (p q : List ℕ) (n : Node) → Each (λ c. slice_index p c ≡ slice_index q c) (children n) → renumbered p n ≡ renumbered q n
renumbered-same p q (Flag b) h = refl
renumbered-same p q (Word z) h = refl
renumbered-same p q (HoleBit site k) h = refl
renumbered-same p q (HoleWord site) h = refl
renumbered-same p q (InputBit i) h = refl
renumbered-same p q (InputWord i) h = refl
renumbered-same p q (Not a) h = rw h.0
renumbered-same p q (And a b) h = rw (h.0, h.1.0)
renumbered-same p q (Or a b) h = rw (h.0, h.1.0)
renumbered-same p q (Xor a b) h = rw (h.0, h.1.0)
renumbered-same p q (BoolMux c a b) h = rw (h.0, h.1.0, h.1.1.0)
renumbered-same p q (Mux c a b) h = rw (h.0, h.1.0, h.1.1.0)
renumbered-same p q (Add a b) h = rw (h.0, h.1.0)
renumbered-same p q (Sub a b) h = rw (h.0, h.1.0)
renumbered-same p q (Mul a b) h = rw (h.0, h.1.0)
renumbered-same p q (Div a b) h = rw (h.0, h.1.0)
renumbered-same p q (Rem a b) h = rw (h.0, h.1.0)
renumbered-same p q (Lt a b) h = rw (h.0, h.1.0)
renumbered-same p q (Eq a b) h = rw (h.0, h.1.0)
renumbered-same p q CostZero h = refl
renumbered-same p q (CostAdd c g x) h = rw (h.0, h.1.0, h.1.1.0)
renumbered-same p q (CostLe c limit) h = rw h.0

renumbered-push : (numbers : List ℕ) (j : ℕ) (n : Node) → Each (λ c. c < length numbers) (children n) → renumbered (numbers ++ j ∷ []) n ≡ renumbered numbers n
renumbered-push numbers j n h =
    renumbered-same (numbers ++ j ∷ []) numbers n
    (each_map _ _ (children n) (λ c l. get_or_append_left numbers (j ∷ []) 0 c l) h)

pub CopiesMarked-none : (from into : Graph) (marks : List Bool) → CopiesMarked from into marks [] 0
CopiesMarked-none from into marks = record { before = λ i m l. absurd (omega (arith, l)); copies = λ i m l. absurd (omega (arith, l)) }

pub CopiesMarked-push : {from a b : Graph} (marks : List Bool) (numbers : List ℕ) (i j : ℕ) (n : Node) → Keeps a b → length numbers ≡ i → IsNode from i n → CopiesMarked from a marks numbers i → (IsMarked marks i → slice_get b.nodes j ≡ Some (renumbered numbers n)) → CopiesMarked from b marks (numbers ++ j ∷ []) (i + 1)
CopiesMarked-push {from} {a} {b} marks numbers i j n keeps long node copied new = record {
  before = λ k m l at. ⊎_elim (λ (below : k < i). copied.before k m below at) (λ (above : i ≤ k). last_before k m (omega arith) at) (cases_lt k i);
  copies = λ k m l mark at.
      ⊎_elim
      (λ (below : k < i).
      let place : slice_index (numbers ++ j ∷ []) k ≡ slice_index numbers k = get_or_append_left numbers (j ∷ []) 0 k (omega (arith, long)) in
      let copy = slice_get-grows (keeps.later b (Grows-refl b)) (slice_index numbers k) (renumbered numbers m) (copied.copies k m below mark at) in
      let within = each_map _ _ (children m) (λ c (d : c < k). omega (arith, long)) (copied.before k m below at) in
      ap (slice_get b.nodes) place ∙ copy ∙ ap Some (sym (renumbered-push numbers j m within)))
      (λ (above : i ≤ k).
      let e : k ≡ i = omega arith in
      let place : slice_index (numbers ++ j ∷ []) k ≡ j = get_or_at numbers j [] 0 k (omega (arith, long)) in
      let within = each_map _ _ (children m) (λ c (d : c < k). omega (arith, long)) (last_before k m e at) in
      ap (slice_get b.nodes) place ∙ new (subst (IsMarked marks) e mark) ∙ ap Some (ap (renumbered numbers) (same k m e at) ∙ sym (renumbered-push numbers j m within)))
      (cases_lt k i);
}
  where
    same : (k : ℕ) (m : Node) → k ≡ i → slice_get from.nodes k ≡ Some m → n ≡ m
    same k m e at = same_Some n m (sym node.found ∙ ap (slice_get from.nodes) (sym e) ∙ at)

    last_before : (k : ℕ) (m : Node) → k ≡ i → slice_get from.nodes k ≡ Some m → Each (λ c. c < k) (children m)
    last_before k m e at =
        subst (λ l. Each (λ c. c < l) (children m)) (sym e)
        (subst (λ x. Each (λ c. c < i) (children x)) (same k m e at) (children_before from.bits from.nodes i n node.before))

pub OnlyMarked-none : (old : Graph) (marks : List Bool) (numbers : List ℕ) → OnlyMarked old old marks numbers 0
OnlyMarked-none old marks numbers = record { each = λ k m h. inl h }

pub OnlyMarked-push : {old a b : Graph} (marks : List Bool) (numbers : List ℕ) (i j : ℕ) → length numbers ≡ i → i < length marks → AddsAtMost (get_or marks i false) a b j → OnlyMarked old a marks numbers i → OnlyMarked old b marks (numbers ++ j ∷ []) (i + 1)
OnlyMarked-push {old} {a} {b} marks numbers i j long within adds only = record {
  each = λ k m h.
      ⊎_elim
      (λ p.
      ⊎_elim (λ q. inl q)
      (λ q.
      let place = get_or_append_left numbers (j ∷ []) 0 q.0 (omega (arith, long, q.1)) in
      inr (q.0, omega (arith, q.1), q.2, place ∙ q.3))
      (only.each k m p))
      (λ p. inr (i, omega arith, marked_here marks i within p.0, get_or_at numbers j [] 0 i (omega (arith, long)) ∙ sym p.1))
      (adds.only k m h);
}

-- and so of what the roots stand on, where that is marked
pub IsCopied-marked : {from old new : Graph} (marks : List Bool) (numbers : List ℕ) (roots : List BoolId) → MarksReached from.nodes roots marks → CopiesMarked from new marks numbers (length from.nodes) → OnlyMarked old new marks numbers (length from.nodes) → IsCopied from old new roots numbers
IsCopied-marked {from} {old} {new} marks numbers roots reached copied only = record {
  copies = λ i m r at. copied.copies i m (slice_get_within from.nodes i m at) ((reached.exact i).1 r) at;
  only = λ k m h. ⊎_elim (λ p. inl p) (λ p. inr (p.0, (reached.exact p.0).0 p.2, p.3)) (only.each k m h);
}

pub AddsAtMost-made : {a b : Graph} {i : ℕ} {n : Node} (flag : Bool) → IsTrue flag → Makes a b i n → AddsAtMost flag a b i
AddsAtMost-made {a} {b} flag set made = record {
  only = λ k m h. ⊎_elim (λ p. inl p) (λ p. inr (set, made.alone k (h ∙ ap Some p))) (made.only k m h);
}
