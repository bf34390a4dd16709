-- A graph in which no rule fits any node, and what stands for the nodes of another.
use Rattle.std.proofs.Common.{◌≡◌, ℕ, zero, suc, ◌<◌, Bool, false, List, [], ◌∷◌, Some, All, length, map, slice_get, slice_index, get_or, refl, sym, ap, subst, ◌∙◌, arith, ⊎_elim}
use Rattle.std.proofs.lemmas.Option.{none-some, same_Some, slice_get_within, slice_get-get_or, get_or_from_slice_get}
use Rattle.sk_dag.specs.declared.env.Env.{Env}
use Rattle.sk_dag.specs.declared.node.BoolId.{BoolId}
use Rattle.sk_dag.specs.declared.node.Node.{Node}
use Rattle.sk_dag.specs.declared.node.Node.TheVariants.{Flag, Word, HoleBit, HoleWord, InputBit, InputWord, Not, And, Or, Xor, BoolMux, Mux, Add, Sub, Mul, Div, Rem, Lt, Eq, CostZero, CostAdd, CostLe}
use Rattle.sk_dag.specs.declared.value.Value.{Value}
use Rattle.sk_dag.specs.Graph.{Graph, Grows, IsWellFormed, HasSort, HasBool, Sort, BoolSort, WordSort, CostSort, sort_of, MayFollow}
use Rattle.sk_dag.specs.Eval.{Makes, Keeps, IsNode, IsShaped, bool_value, value_of, graph_values}
use Rattle.sk_dag.specs.Reach.{IsMarked, IsClosed, MarksReached, StandsFor, StandForMarked, OnlyMarked, renumbered, new_bool}
use Rattle.sk_dag.proofs.EvalLemmas.{Grows-trans, slice_get-grows, Keeps-bits, value_at-shaped}
use Rattle.sk_dag.proofs.ReachLemmas.{copy_sort, copy_value, root_marked, StandsFor-bool}
use Rattle.sk_simplify.specs.Rules.{left_side, IsSimple}
use Rattle.sk_simplify.specs.Reduct.{IsSame, IsKnown, IsFresh, IsReordered, IsWorth, KeepsRoots, OnlyBelow}

-- ---- no rule fits

-- a rule reads the operands alone, which stay
left_side-same : (ns ms : List Node) (w : ℕ) → ((i : ℕ) (s : Sort) → HasSort ns i s → slice_get ms i ≡ slice_get ns i) → (n : Node) → MayFollow w ns n → left_side ms n ≡ left_side ns n
unfolding left_side
left_side-same ns ms w same (Not a) h = rw (same a.index _ h)
left_side-same ns ms w same (And a b) h = rw (same a.index _ h.0, same b.index _ h.1)
left_side-same ns ms w same (Or a b) h = rw (same a.index _ h.0, same b.index _ h.1)
left_side-same ns ms w same (Xor a b) h = rw (same a.index _ h.0, same b.index _ h.1)
left_side-same ns ms w same (BoolMux c a b) h = rw (same c.index _ h.0, same a.index _ h.1, same b.index _ h.2)
left_side-same ns ms w same (Mux c a b) h = rw (same c.index _ h.0)
left_side-same ns ms w same (Add a b) h = rw (same a.index _ h.0, same b.index _ h.1)
left_side-same ns ms w same (Sub a b) h = rw (same a.index _ h.0, same b.index _ h.1)
left_side-same ns ms w same (Mul a b) h = rw (same a.index _ h.0, same b.index _ h.1)
left_side-same ns ms w same (Div a b) h = rw (same a.index _ h.0, same b.index _ h.1)
left_side-same ns ms w same (Rem a b) h = rw (same a.index _ h.0, same b.index _ h.1)
left_side-same ns ms w same (Lt a b) h = rw (same a.index _ h.0, same b.index _ h.1)
left_side-same ns ms w same (Eq a b) h = rw (same a.index _ h.0, same b.index _ h.1)
left_side-same ns ms w same (CostAdd c g x) h = rw (same g.index _ h.1, same x.index _ h.2)
left_side-same ns ms w same (CostLe c limit) h = rw (same c.index _ h)
left_side-same ns ms w same (Flag b) h = refl
left_side-same ns ms w same (Word z) h = refl
left_side-same ns ms w same (HoleBit site k) h = refl
left_side-same ns ms w same (HoleWord site) h = refl
left_side-same ns ms w same (InputBit i) h = refl
left_side-same ns ms w same (InputWord i) h = refl
left_side-same ns ms w same CostZero h = refl

left_side-grows : {a b : Graph} (n : Node) → Grows a b → MayFollow a.bits a.nodes n → left_side b.nodes n ≡ left_side a.nodes n
left_side-grows {a} {b} n h may =
    left_side-same a.nodes b.nodes a.bits (λ i s there. slice_get-grows h i _ there.found ∙ sym there.found) n may

-- where no rule fits a new node, none fits any
pub IsSimple-made : {a b : Graph} {i : ℕ} {n : Node} → Makes a b i n → IsSimple a → left_side a.nodes n ≡ false → IsSimple b
IsSimple-made {a} {b} {i} {n} made simple none = record {
  each = λ k m h.
      ⊎_elim
      (λ (old : slice_get a.nodes k ≡ Some m). left_side-grows m made.grows (made.closed k m old) ∙ simple.each k m old)
      (λ (new : m ≡ n). ap (left_side b.nodes) new ∙ left_side-grows n made.grows made.children ∙ none)
      (made.only k m h);
}

-- ---- what a node becomes has its value

value_of-shaped : (w : ℕ) (e : Env) (vs : List Value) (n : Node) → IsShaped (sort_of n) (value_of w e vs n)
unfolding value_of
value_of-shaped w e vs (Flag b) = refl
value_of-shaped w e vs (Word z) = refl
value_of-shaped w e vs (HoleBit site k) = refl
value_of-shaped w e vs (HoleWord site) = refl
value_of-shaped w e vs (InputBit i) = refl
value_of-shaped w e vs (InputWord i) = refl
value_of-shaped w e vs (Not a) = refl
value_of-shaped w e vs (And a b) = refl
value_of-shaped w e vs (Or a b) = refl
value_of-shaped w e vs (Xor a b) = refl
value_of-shaped w e vs (BoolMux c a b) = refl
value_of-shaped w e vs (Mux c a b) = refl
value_of-shaped w e vs (Add a b) = refl
value_of-shaped w e vs (Sub a b) = refl
value_of-shaped w e vs (Mul a b) = refl
value_of-shaped w e vs (Div a b) = refl
value_of-shaped w e vs (Rem a b) = refl
value_of-shaped w e vs (Lt a b) = refl
value_of-shaped w e vs (Eq a b) = refl
value_of-shaped w e vs CostZero = refl
value_of-shaped w e vs (CostAdd c g x) = refl
value_of-shaped w e vs (CostLe c limit) = refl

same_shaped : (s : Sort) (u v : Value) → IsShaped s u → IsShaped s v → IsSame s u v → u ≡ v
same_shaped BoolSort u v p q e = cc
same_shaped WordSort u v p q e = cc
same_shaped CostSort u v p q e = cc

pub IsWorth-known : {a : Graph} {node other : Node} {i : ℕ} → IsWellFormed a.bits a.nodes → IsReordered node other → IsKnown a other i → IsWorth a node i
IsWorth-known {a} {node} {other} {i} wf same known = record {
  there = subst (HasSort a.nodes i) same.sort known.there;
  value = λ g more e.
      same_shaped (sort_of other) _ _ (value_at-shaped i (sort_of other) wf known.there more e) (value_of-shaped a.bits e (graph_values g e) other) (known.value g more e)
      ∙ same.value a.bits e (graph_values g e);
}

pub IsWorth-fresh : {a b : Graph} {node other new : Node} {i : ℕ} → IsReordered node other → IsFresh a other new → Makes a b i new → IsWorth b node i
IsWorth-fresh {a} {b} {node} {other} {new} {i} same fresh made = record {
  there = subst (HasSort b.nodes i) (fresh.sort ∙ same.sort) made.sort;
  value = λ g more e.
      made.value g more e
      ∙ fresh.value g (Grows-trans made.grows more) e
      ∙ same.value a.bits e (graph_values g e)
      ∙ ap (λ w. value_of w e (graph_values g e) node) (sym made.grows.bits);
}

-- a node that stands for another by what it became
pub StandsFor-worth : {from a b : Graph} (marks : List Bool) (numbers : List ℕ) (i j : ℕ) (n : Node) → IsClosed from.nodes marks → from.bits ≡ a.bits → IsNode from i n → StandForMarked from a marks numbers i → Keeps a b → IsMarked marks i → IsWorth b (renumbered numbers n) j → StandsFor from b i j
StandsFor-worth {from} {a} {b} marks numbers i j n closed bits node copied keeps mark worth = record {
  sorts = λ s there. subst (HasSort b.nodes j) (copy_sort marks numbers i n closed bits node copied mark s there) worth.there;
  value = λ g more e.
      worth.value g more e
      ∙ ap (λ w. value_of w e (graph_values g e) (renumbered numbers n)) (Keeps-bits keeps)
      ∙ copy_value marks numbers i n closed bits node copied mark g (keeps.later g more) e;
}

-- ---- the roots

slice_get-map : (f : BoolId → BoolId) (rs : List BoolId) (k : ℕ) (r : BoolId) → slice_get rs k ≡ Some r → slice_get (map f rs) k ≡ Some (f r)
slice_get-map f [] k r h = absurd (none-some r h)
slice_get-map f (x ∷ rs) zero r h = ap (λ y. Some (f y)) (same_Some x r h)
slice_get-map f (x ∷ rs) (suc k) r h = slice_get-map f rs k r h

length_map : (f : BoolId → BoolId) (rs : List BoolId) → length (map f rs) ≡ length rs
length_map f [] = refl
length_map f (x ∷ rs) = ap suc (length_map f rs)

pub KeepsRoots-made : {from into : Graph} (marks : List Bool) (numbers : List ℕ) (roots : List BoolId) → All (HasBool from.nodes) roots → MarksReached from.nodes roots marks → StandForMarked from into marks numbers (length from.nodes) → KeepsRoots from roots into (map (new_bool numbers) roots)
KeepsRoots-made {from} {into} marks numbers roots all reached copied = record {
  length = length_map (new_bool numbers) roots;
  there = λ k m h.
      let within : k < length roots = omega (arith, slice_get_within _ k m h, length_map (new_bool numbers) roots) in
      let d : BoolId = record { index = 0 } in
      let at = slice_get-get_or roots k d within in
      let same : new_bool numbers (get_or roots k d) ≡ m = same_Some _ _ (sym (slice_get-map (new_bool numbers) roots k _ at) ∙ h) in
      subst (HasBool into.nodes) same ((stands k _ at).sorts BoolSort (there_is k _ at));
  value = λ k r m h l g more e.
      let same : new_bool numbers r ≡ m = same_Some _ _ (sym (slice_get-map (new_bool numbers) roots k r h) ∙ l) in
      ap (bool_value g e) (sym same) ∙ StandsFor-bool numbers r (stands k r h) g more e;
}
  where
    there_is : (k : ℕ) (r : BoolId) → slice_get roots k ≡ Some r → HasBool from.nodes r
    there_is k r h = subst (HasBool from.nodes) (get_or_from_slice_get roots k r r h) (all k r (slice_get_within roots k r h))

    stands : (k : ℕ) (r : BoolId) → slice_get roots k ≡ Some r → StandsFor from into r.index (slice_index numbers r.index)
    stands k r h =
        let there = there_is k r h in
        copied.each r.index (slice_get_within from.nodes r.index there.node there.found)
        (root_marked _ _ marks reached r (k, slice_get_within roots k r h, get_or_from_slice_get roots k r r h))

-- the roots have numbers
pub roots_within : (nodes : List Node) (numbers : List ℕ) (roots : List BoolId) → All (HasBool nodes) roots → length numbers ≡ length nodes → All (λ r. r.index < length numbers) roots
roots_within nodes numbers roots all e k d l =
    let there = all k d l in
    omega (arith, slice_get_within nodes _ there.node there.found)

-- ---- nothing else

pub OnlyBelow-made : {from old new : Graph} (marks : List Bool) (numbers : List ℕ) (roots : List BoolId) → MarksReached from.nodes roots marks → old.nodes ≡ [] → StandForMarked from new marks numbers (length from.nodes) → OnlyMarked old new marks numbers (length from.nodes) → OnlyBelow from roots new
OnlyBelow-made {from} {old} {new} marks numbers roots reached none copied only = record {
  numbers = numbers;
  each = λ k m h.
      ⊎_elim
      (λ (p : slice_get old.nodes k ≡ Some m). absurd (none-some m (sym (ap (λ l. slice_get l k) none) ∙ p)))
      (λ p. (p.0, (reached.exact p.0).0 p.2, p.3, subst (StandsFor from new p.0) p.3 (copied.each p.0 p.1 p.2)))
      (only.each k m h);
}
