-- Leaves none of which stands twice.
use Rattle.std.proofs.Common.{◌≡◌, ℕ, zero, suc, ◌+◌, ◌<◌, Bool, true, false, not, List, [], ◌∷◌, ◌++◌, Some, length, take, slice_get, get_or, refl, sym, ap, subst, ◌∙◌, arith, ◌⊎◌, inl, inr, ⊎_elim, true≢false}
use Rattle.std.specs.List.{list_any, Any}
use Rattle.std.proofs.lemmas.List.Folds.{list_any_at, Any-from_list_any}
use Rattle.std.proofs.lemmas.List.{take_more}
use Rattle.std.proofs.lemmas.Option.{none-some, same_Some, slice_get_within, slice_get-get_or, get_or_from_slice_get}
use Rattle.indexmap.specs.IndexSet.{insert_key}
use Rattle.sk_cnf.specs.declared.leaf.Leaf.{Leaf}
use Rattle.sk_cnf.specs.Formula.{AreLeaves}
use Rattle.sk_cnf.proofs.LeafEq.{equal_leaf, leaf_same}
use Rattle.sk_cnf.specs.contracts.leaf.LeafPartialEq.TheImpl as leaf_eq

-- an element of a front of a list
pub front_get : {X : Type 0} (xs : List X) (i j : ℕ) (x : X) → slice_get (take i xs) j ≡ Some x → (slice_get xs j ≡ Some x) × (j < i)
front_get xs zero j x h = absurd (none-some x h)
front_get [] (suc i) j x h = absurd (none-some x h)
front_get (y ∷ ys) (suc i) zero x h = (h, omega arith)
front_get (y ∷ ys) (suc i) (suc j) x h = let r = front_get ys i j x h in (r.0, omega (arith, r.1))

get_pushed : {X : Type 0} (xs : List X) (x m : X) (i : ℕ) → slice_get (xs ++ x ∷ []) i ≡ Some m → (slice_get xs i ≡ Some m) ⊎ ((i ≡ length xs) × (x ≡ m))
get_pushed [] x m zero h = inr (refl, same_Some x m h)
get_pushed [] x m (suc i) h = absurd (none-some m h)
get_pushed (y ∷ ys) x m zero h = inl h
get_pushed (y ∷ ys) x m (suc i) h = ⊎_elim (λ p. inl p) (λ p. inr (ap suc p.0, p.1)) (get_pushed ys x m i h)

pub AreLeaves-nil : AreLeaves []
AreLeaves-nil = record { distinct = λ i j l p q. absurd (none-some l p) }

pub AreLeaves-push : (xs : List Leaf) (x : Leaf) → AreLeaves xs → list_any ((leaf_eq.eq-value).it x) xs ≡ false → AreLeaves (xs ++ x ∷ [])
AreLeaves-push xs x h none = record { distinct = both }
  where
    apart : (i : ℕ) → slice_get xs i ≡ Some x → ⊥
    apart i p =
        let same : (leaf_eq.eq-value).it x (get_or xs i x) ≡ true = ap ((leaf_eq.eq-value).it x) (get_or_from_slice_get xs i x x p) ∙ leaf_same x in
        true≢false (sym (list_any_at ((leaf_eq.eq-value).it x) xs i x (slice_get_within xs i x p) same) ∙ none)

    both : (i j : ℕ) (l : Leaf) → slice_get (xs ++ x ∷ []) i ≡ Some l → slice_get (xs ++ x ∷ []) j ≡ Some l → i ≡ j
    both i j l p q =
        ⊎_elim
        (λ (a : slice_get xs i ≡ Some l). ⊎_elim
        (λ (b : slice_get xs j ≡ Some l). h.distinct i j l a b)
        (λ (b : (j ≡ length xs) × (x ≡ l)). absurd (apart i (a ∙ ap Some (sym b.1))))
        (get_pushed xs x l j q))
        (λ (a : (i ≡ length xs) × (x ≡ l)). ⊎_elim
        (λ (b : slice_get xs j ≡ Some l). absurd (apart j (b ∙ ap Some (sym a.1))))
        (λ (b : (j ≡ length xs) × (x ≡ l)). a.0 ∙ sym b.0)
        (get_pushed xs x l j q))
        (get_pushed xs x l i p)

-- a leaf that stands among those before it stands twice
pub stands_twice : (leaves : List Leaf) (i : ℕ) (x : Leaf) → slice_get leaves i ≡ Some x → list_any ((leaf_eq.eq-value).it x) (take i leaves) ≡ true → AreLeaves leaves → ⊥
stands_twice leaves i x here any h =
    let a : Any (λ y. (leaf_eq.eq-value).it x y ≡ true) (take i leaves) = Any-from_list_any ((leaf_eq.eq-value).it x) (take i leaves) any in
    let same : x ≡ a.1 = equal_leaf x a.1 a.4 in
    let there : slice_get (take i leaves) a.0 ≡ Some x = slice_get-get_or (take i leaves) a.0 a.1 a.2 ∙ ap Some (a.3 ∙ sym same) in
    let front = front_get leaves i a.0 x there in
    let e : i ≡ a.0 = h.distinct i a.0 x here front.0 in
    absurd (omega (arith, e, front.1))

-- a leaf that is not among those before it
pub stands_once : (leaves : List Leaf) (i : ℕ) (x : Leaf) → slice_get leaves i ≡ Some x → AreLeaves leaves → (j : ℕ) → slice_get (take i leaves) j ≡ Some x → ⊥
stands_once leaves i x here h j there =
    let front = front_get leaves i j x there in
    let e : i ≡ j = h.distinct i j x here front.0 in
    absurd (omega (arith, e, front.1))

pub insert_new : (keys : List Leaf) (x : Leaf) → list_any ((leaf_eq.eq-value).it x) keys ≡ false → insert_key (leaf_eq.eq-value).it keys x ≡ keys ++ x ∷ []
insert_new keys x none = rw none

pub distinct_more : (leaves keys new : List Leaf) (i : ℕ) (d : Leaf) → i < length leaves → keys ≡ take i leaves → AreLeaves (take i leaves)
    → list_any ((leaf_eq.eq-value).it (get_or leaves i d)) keys ≡ false → new ≡ insert_key (leaf_eq.eq-value).it keys (get_or leaves i d) → (new ≡ take (i + 1) leaves) × AreLeaves (take (i + 1) leaves)
distinct_more leaves keys new i d within front apart none is =
    let x = get_or leaves i d in
    let more : take (i + 1) leaves ≡ take i leaves ++ x ∷ [] = take_more leaves i d within in
    let absent : list_any ((leaf_eq.eq-value).it x) (take i leaves) ≡ false = ap (list_any ((leaf_eq.eq-value).it x)) (sym front) ∙ none in
    (is ∙ insert_new keys x none ∙ ap (λ l. l ++ x ∷ []) front ∙ sym more, subst AreLeaves (sym more) (AreLeaves-push (take i leaves) x apart absent))

pub not_false : (b c : Bool) → b ≡ not c → b ≡ true → c ≡ false
not_false b true e f = absurd (true≢false (sym f ∙ e))
not_false b false e f = refl
