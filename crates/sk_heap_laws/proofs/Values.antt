-- Places of slots, and the values of what is live.
use Rattle.std.proofs.Common.{◌≡◌, ℕ, zero, suc, ◌<◌, ◌≤◌, Bool, true, false, List, [], ◌∷◌, map, All, IsTrue, Option, Some, None, refl, sym, ap, subst, ◌∙◌, arith, ◌⊎◌, inl, inr, ⊎_elim, if◌then◌else◌}
use Rattle.std.proofs.lemmas.List.Elements.{All-head, All-tail}
use Rattle.sk_dag.specs.declared.shape.Seen.{Seen}
use Rattle.sk_dag.specs.declared.shape.Seen.TheVariants as seen
use Rattle.sk_prog.specs.declared.value.Value.{Value}
use Rattle.sk_prog.specs.declared.value.Value.TheVariants as value
use Rattle.sk_heap_laws.specs.Values.{place_of, value_of, IsLive, AllLive}
use Rattle.sk_heap_laws.proofs.Parts.{seen_law, of_bit, of_int, of_null, of_slot, of_array, live_bit, live_int, live_null, live_slot, slot_live, live_array, array_live, live_head, live_tail}

-- ---- places

pub split : (n k : ℕ) → (n < k) ⊎ (k ≤ n)
split zero zero = inr (omega arith)
split zero (suc k) = inl (omega arith)
split (suc n) zero = inr (omega arith)
split (suc n) (suc k) = ⊎_elim (λ less. inl (omega (arith, less))) (λ more. inr (omega (arith, more))) (split n k)

module _ (holds : ℕ → Bool) where
  place_next : (n : ℕ) (b : Bool) → holds n ≡ b → place_of holds (suc n) ≡ (if b then suc (place_of holds n) else place_of holds n)
  place_next n b e = ap (λ c. if c then suc (place_of holds n) else place_of holds n) e

  place_step : (n : ℕ) → place_of holds n ≤ place_of holds (suc n)
  place_step n = by (holds n)
    where
      by : (b : Bool) → place_of holds n ≤ (if b then suc (place_of holds n) else place_of holds n)
      by true = omega arith
      by false = omega arith

  pub place_grows : (n k : ℕ) → n ≤ k → place_of holds n ≤ place_of holds k
  place_grows n zero h = let is : n ≡ zero = omega (arith, h) in subst (λ m. place_of holds m ≤ place_of holds zero) (sym is) (omega arith)
  place_grows n (suc k) h = ⊎_elim
      (λ less. let below : place_of holds n ≤ place_of holds k = place_grows n k (omega (arith, less)) in omega (arith, below, place_step k))
      (λ more. let same : n ≡ suc k = omega (arith, h, more) in subst (λ m. place_of holds m ≤ place_of holds (suc k)) (sym same) (omega arith))
      (split n (suc k))

  -- the place of a slot that holds is below that of a later one
  pub place_less : (n k : ℕ) → IsTrue (holds n) → n < k → place_of holds n < place_of holds k
  place_less n k h lt = omega (arith, place_next n true h, place_grows (suc n) k (omega (arith, lt)))

  -- slots that hold have places of their own
  pub place_own : (n k : ℕ) → IsTrue (holds n) → IsTrue (holds k) → place_of holds n ≡ place_of holds k → n ≡ k
  place_own n k h h' e = ⊎_elim
      (λ less. absurd (omega (arith, place_less n k h less, e)))
      (λ up. ⊎_elim
      (λ more. absurd (omega (arith, place_less k n h' more, e)))
      (λ down. omega (arith, up, down))
      (split k n))
      (split n k)

-- the places of the slots up to one depend on those before it alone
pub place_agrees : (p q : ℕ → Bool) (n : ℕ) → ((k : ℕ) → k < n → p k ≡ q k) → place_of p n ≡ place_of q n
place_agrees p q zero h = refl
place_agrees p q (suc n) h =
    place_next p n (q n) (h n (omega arith))
    ∙ ap (λ m. if q n then suc m else m) (place_agrees p q n (λ k lt. h k (omega (arith, lt))))

-- the slots behind the first
pub place_front : (p : ℕ → Bool) (n : ℕ) → place_of p (suc n) ≡ (if p 0 then suc (place_of (λ k. p (suc k)) n) else place_of (λ k. p (suc k)) n)
place_front p zero = refl
place_front p (suc n) = ap (λ m. if p (suc n) then suc m else m) (place_front p n) ∙ by (p (suc n)) (p 0)
  where
    by : (a b : Bool) → (if a then suc (if b then suc (place_of (λ k. p (suc k)) n) else place_of (λ k. p (suc k)) n) else (if b then suc (place_of (λ k. p (suc k)) n) else place_of (λ k. p (suc k)) n)) ≡ (if b then suc (if a then suc (place_of (λ k. p (suc k)) n) else place_of (λ k. p (suc k)) n) else (if a then suc (place_of (λ k. p (suc k)) n) else place_of (λ k. p (suc k)) n))
    by true true = refl
    by true false = refl
    by false true = refl
    by false false = refl

-- ---- values and what is live

pub live_more : (p q : ℕ → Bool) → ((n : ℕ) → IsTrue (p n) → IsTrue (q n)) → (v : Seen) → IsLive p v → IsLive q v
live_more p q more = seen_law (λ v. IsLive p v → IsLive q v)
    (λ b h. live_bit q b)
    (λ z h. live_int q z)
    slot
    (λ vs below h. live_array q vs (record { each = λ i d lt. below i d lt ((array_live p vs h).each i d lt) }))
  where
    slot : (s : Option ℕ) → IsLive p (seen.Slot s) → IsLive q (seen.Slot s)
    slot None h = live_null q
    slot (Some n) h = live_slot q n (more n (slot_live p n h))

map_agrees : (P : Seen → Type 0) (f k : Seen → Value) (vs : List Seen) → All (λ v. P v → f v ≡ k v) vs → All P vs → map f vs ≡ map k vs
map_agrees P f k [] h live = refl
map_agrees P f k (v ∷ vs) h live = λ i. All-head (λ v. P v → f v ≡ k v) v vs h (All-head P v vs live) i ∷ map_agrees P f k vs (All-tail (λ v. P v → f v ≡ k v) v vs h) (All-tail P v vs live) i

-- a value depends on the places of slots that hold alone
pub value_agrees : (holds : ℕ → Bool) (p q : ℕ → ℕ) → ((n : ℕ) → IsTrue (holds n) → p n ≡ q n) → (v : Seen) → IsLive holds v → value_of p v ≡ value_of q v
value_agrees holds p q same = seen_law (λ v. IsLive holds v → value_of p v ≡ value_of q v)
    (λ b h. of_bit p b ∙ sym (of_bit q b))
    (λ z h. of_int p z ∙ sym (of_int q z))
    slot
    (λ vs below h. of_array p vs ∙ ap (λ l. value.Array l) (map_agrees (IsLive holds) (value_of p) (value_of q) vs below (array_live holds vs h).each) ∙ sym (of_array q vs))
  where
    slot : (s : Option ℕ) → IsLive holds (seen.Slot s) → value_of p (seen.Slot s) ≡ value_of q (seen.Slot s)
    slot None h = of_null p ∙ sym (of_null q)
    slot (Some n) h = of_slot p n ∙ ap (λ k. value.Place k) (same n (slot_live holds n h)) ∙ sym (of_slot q n)

pub values_agree : (holds : ℕ → Bool) (p q : ℕ → ℕ) → ((n : ℕ) → IsTrue (holds n) → p n ≡ q n) → (vs : List Seen) → AllLive holds vs → map (value_of p) vs ≡ map (value_of q) vs
values_agree holds p q same [] h = refl
values_agree holds p q same (v ∷ vs) h = λ i. value_agrees holds p q same v (live_head holds v vs h) i ∷ values_agree holds p q same vs (live_tail holds v vs h) i
