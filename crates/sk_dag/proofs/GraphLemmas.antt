-- What a new node leaves of a graph.
use Rattle.std.proofs.Common.{◌≡◌, ℕ, zero, suc, ◌<◌, Bool, true, false, List, [], ◌∷◌, ◌++◌, Some, length, take, slice_get, get_or, refl, sym, ap, subst, ◌∙◌, inl, inr, ◌⊎◌, ⊎_elim, arith, if◌then◌else◌, true≢false}
use Rattle.std.proofs.lemmas.List.{take-append-le, take_at, take_all}
use Rattle.std.proofs.lemmas.Option.{none-some, same_Some, slice_get_within, get_or_from_slice_get}
use Rattle.std.proofs.lemmas.Map.Keys.{any_passes_from_place, apart_from_distinct}
use Rattle.std.specs.List.{IsDistinct, list_any}
use Rattle.indexmap.specs.IndexSet.{insert_key}
use Rattle.sk_dag.specs.Graph.{Graph, MayFollow, IsWellFormed, Grows}
use Rattle.sk_dag.specs.declared.node.Node.{Node}

-- what a graph with a new node says of its nodes
pub record IsAdded (old new : Graph) (i : ℕ) (node : Node) : Type 0 where
  pub grows : Grows old new
  pub found : slice_get new.nodes i ≡ Some node
  pub alone : (k : ℕ) → slice_get new.nodes k ≡ Some node → k ≡ i
  pub only : (k : ℕ) (m : Node) → slice_get new.nodes k ≡ Some m → (slice_get old.nodes k ≡ Some m) ⊎ (m ≡ node)
  pub known : (k : ℕ) → slice_get old.nodes k ≡ Some node → (i ≡ k) × (new ≡ old)

-- a node of a list with one more node is one of the list's, or the last
pub slice_get_pushed : (ns : List Node) (n m : Node) (i : ℕ) → slice_get (ns ++ n ∷ []) i ≡ Some m → ((i < length ns) × (slice_get ns i ≡ Some m)) ⊎ ((i ≡ length ns) × (n ≡ m))
slice_get_pushed [] n m zero h = inr (refl, same_Some n m h)
slice_get_pushed [] n m (suc i) h = absurd (none-some m h)
slice_get_pushed (x ∷ xs) n m zero h = inl (omega arith, h)
slice_get_pushed (x ∷ xs) n m (suc i) h =
    ⊎_elim (λ p. inl (omega (arith, p.0), p.1)) (λ p. inr (ap suc p.0, p.1)) (slice_get_pushed xs n m i h)

-- each node may follow those before it
EachFollows : ℕ → List Node → Type 0
EachFollows w ns = (i : ℕ) (m : Node) → slice_get ns i ≡ Some m → MayFollow w (take i ns) m

EachFollows-push : (w : ℕ) (ns : List Node) (n : Node) → EachFollows w ns → MayFollow w ns n → EachFollows w (ns ++ n ∷ [])
unfolding EachFollows
EachFollows-push w ns n each fine i m h =
    ⊎_elim
    (λ p. subst (λ l. MayFollow w l m) (sym (take-append-le i ns (n ∷ []) (omega (arith, p.0)))) (each i m p.1))
    (λ p. subst (λ l. MayFollow w l m) (sym (take_at ns (n ∷ []) i (sym p.0))) (subst (MayFollow w ns) p.1 fine))
    (slice_get_pushed ns n m i h)

module _ (eq : Node → Node → Bool) where
  EachFollows-insert_key : (w : ℕ) (ks : List Node) (n : Node) → EachFollows w ks → MayFollow w ks n → EachFollows w (insert_key eq ks n)
  EachFollows-insert_key w ks n each fine = by (list_any (eq n) ks)
    where
      by : (b : Bool) → EachFollows w (if b then ks else ks ++ n ∷ [])
      by true = each
      by false = EachFollows-push w ks n each fine

  take-insert_key : (ks : List Node) (n : Node) → take (length ks) (insert_key eq ks n) ≡ ks
  take-insert_key ks n = by (list_any (eq n) ks)
    where
      by : (b : Bool) → take (length ks) (if b then ks else ks ++ n ∷ []) ≡ ks
      by true = take_all (length ks) ks (omega arith)
      by false = take_at ks (n ∷ []) (length ks) refl

  -- a node stands at one place
  one_place : ((x : Node) → eq x x ≡ true) → (ks : List Node) (i j : ℕ) (x : Node) → IsDistinct eq ks → slice_get ks i ≡ Some x → slice_get ks j ≡ Some x → i < j → ⊥
  one_place self ks i j x distinct hi hj below =
      let apart = apart_from_distinct eq ks i j x distinct below (slice_get_within ks j x hj) in
      let same : eq (get_or ks i x) (get_or ks j x) ≡ true = rw (get_or_from_slice_get ks i x x hi, get_or_from_slice_get ks j x x hj) (self x) in
      true≢false (sym same ∙ apart)

  one_number : ((x : Node) → eq x x ≡ true) → (ks : List Node) → IsDistinct eq ks → (i j : ℕ) (x : Node) → slice_get ks i ≡ Some x → slice_get ks j ≡ Some x → i ≡ j
  one_number self ks distinct i j x hi hj =
      let below : i < j → ⊥ = one_place self ks i j x distinct hi hj in
      let above : j < i → ⊥ = one_place self ks j i x distinct hj hi in
      omega (arith, below, above)

  pub IsWellFormed-insert_key : ((x : Node) → eq x x ≡ true) → (w : ℕ) (ks : List Node) (n : Node) → IsWellFormed w ks → MayFollow w ks n → IsDistinct eq (insert_key eq ks n) → IsWellFormed w (insert_key eq ks n)
  unfolding EachFollows
  IsWellFormed-insert_key self w ks n wf fine distinct = record {
    bits_low = wf.bits_low;
    bits_high = wf.bits_high;
    each = EachFollows-insert_key w ks n wf.each fine;
    distinct = one_number self (insert_key eq ks n) distinct;
  }

  pub IsAdded-insert_key : ((x y : Node) → eq x y ≡ true → x ≡ y) → ((x : Node) → eq x x ≡ true) → (old : Graph) (ks : List Node) (i : ℕ) (n k : Node) → ks ≡ insert_key eq old.nodes n → slice_get ks i ≡ Some k → eq n k ≡ true → IsDistinct eq ks → IsAdded old (record { bits = old.bits; nodes = ks }) i n
  IsAdded-insert_key same self old ks i n k is at equal distinct =
      record { grows = record { bits = refl; nodes = rw is (take-insert_key old.nodes n) }; found = found; alone = λ k h. one_number self ks distinct k i n h found; only = only; known = known }
    where
      found : slice_get ks i ≡ Some n
      found = at ∙ ap Some (sym (same n k equal))

      stays : list_any (eq n) old.nodes ≡ true → ks ≡ old.nodes
      stays h = is ∙ ap (λ b. if b then old.nodes else old.nodes ++ n ∷ []) h

      only : (j : ℕ) (m : Node) → slice_get ks j ≡ Some m → (slice_get old.nodes j ≡ Some m) ⊎ (m ≡ n)
      only j m h = by (list_any (eq n) old.nodes) (ap (λ l. slice_get l j) (sym is) ∙ h)
        where
          by : (b : Bool) → slice_get (if b then old.nodes else old.nodes ++ n ∷ []) j ≡ Some m → (slice_get old.nodes j ≡ Some m) ⊎ (m ≡ n)
          by true p = inl p
          by false p = ⊎_elim (λ q. inl q.1) (λ q. inr (sym q.1)) (slice_get_pushed old.nodes n m j p)

      known : (j : ℕ) → slice_get old.nodes j ≡ Some n → (i ≡ j) × (record { bits = old.bits; nodes = ks } ≡ old)
      known j h =
          let s = stays (any_passes_from_place (eq n) old.nodes j n h (self n)) in
          let there : slice_get ks j ≡ Some n = ap (λ l. slice_get l j) s ∙ h in
          (one_number self ks distinct i j n found there, ap (λ l. record { bits = old.bits; nodes = l }) s)
