-- Heaps that grow: old slots hold where they held, and what was live stays live and is worth the same.
use Rattle.std.proofs.lemmas.Option.{none-some, same_Some, slice_get_within}
use Rattle.std.proofs.Common.{◌≡◌, ℕ, zero, suc, ◌<◌, ◌≤◌, Bool, true, false, true≢false, List, [], ◌∷◌, ◌++◌, map, length, IsTrue, Option, Some, None, slice_get, refl, sym, ap, ◌∙◌, arith}
use Rattle.sk_dag.specs.declared.env.Env.{Env}
use Rattle.sk_dag.specs.declared.node.BoolId.{BoolId}
use Rattle.sk_dag.specs.declared.shape.Seen.{Seen}
use Rattle.sk_dag.specs.declared.shape.Shape.{Shape}
use Rattle.sk_dag.specs.Graph.{Graph}
use Rattle.sk_dag.specs.Eval.{bool_value}
use Rattle.sk_dag.specs.EvalShape.{shape_value}
use Rattle.sk_arr.proofs.Values.{length_map}
use Rattle.sk_heap.specs.declared.slot.Slot.{Slot}
use Rattle.sk_heap.specs.Answers.{guard_of, struct_of}
use Rattle.sk_heap.proofs.Heaps.{StaysOf, get_front, of_there, there_of, mapped_at}
use Rattle.sk_heap_laws.specs.Values.{place_of, guard_holds, holds_in, value_of, value_in, values_in, IsLive, AllLive, ShapeLive}
use Rattle.sk_heap_laws.specs.Heaps.{StructsGrow, HeapGrows, HoldAlike, AreFree}
use Rattle.sk_heap_laws.proofs.Parts.{live_head, live_tail}
use Rattle.sk_heap_laws.proofs.Values.{place_agrees, live_more, value_agrees}

-- ---- the structs of the slots

pub StructsGrow-refl : (heap : List Slot) → StructsGrow heap heap
StructsGrow-refl heap = record { structs = λ n s h. h }

pub StructsGrow-trans : {a b c : List Slot} → StructsGrow a b → StructsGrow b c → StructsGrow a c
StructsGrow-trans p q = record { structs = λ n s h. q.structs n s (p.structs n s h) }

-- where they are the same
pub StructsGrow-same : {old new : List Slot} → map struct_of new ≡ map struct_of old → StructsGrow old new
StructsGrow-same q = record { structs = λ n s h. ap (λ l. slice_get l n) q ∙ h }

-- where a mapped list has a value, the list has one
pub mapped_from : {A B : Type 0} (f : A → B) (xs : List A) (n : ℕ) (y : B) → slice_get (map f xs) n ≡ Some y → (x : A) × (slice_get xs n ≡ Some x) × (f x ≡ y)
mapped_from f [] n y h = absurd (none-some y h)
mapped_from f (x ∷ xs) zero y h = (x, refl, same_Some (f x) y h)
mapped_from f (x ∷ xs) (suc n) y h = mapped_from f xs n y h

front_mapped : {A B : Type 0} (f : A → B) (xs : List A) (x : A) (n : ℕ) (y : B) → slice_get (map f xs) n ≡ Some y → slice_get (map f (xs ++ x ∷ [])) n ≡ Some y
front_mapped f xs x n y h = let found = mapped_from f xs n y h in mapped_at f (xs ++ x ∷ []) n found.0 (get_front xs x found.0 n found.1) ∙ ap (λ z. Some z) found.2

pub StructsGrow-push : (heap : List Slot) (slot : Slot) → StructsGrow heap (heap ++ slot ∷ [])
StructsGrow-push heap slot = record { structs = front_mapped struct_of heap slot }

-- slots of a struct are slots of it
pub StaysOf-grows : {old new : List Slot} → StructsGrow old new → StaysOf old new
StaysOf-grows {old} {new} more s n h =
    let found = of_there old s n h in
    let kept = mapped_from struct_of new n found.0.of (more.structs n found.0.of (mapped_at struct_of old n found.0 found.1)) in
    there_of new s n kept.0 kept.1 (kept.2 ∙ found.2)

-- ---- what holds

module _ (g : Graph) (e : Env) where
  pub holds_there : (heap : List Slot) (n : ℕ) → IsTrue (holds_in g e heap n) → n < length heap
  holds_there heap n h = by (slice_get (map guard_of heap) n) refl
    where
      by : (o : Option BoolId) → slice_get (map guard_of heap) n ≡ o → n < length heap
      by None is = absurd (true≢false (sym h ∙ ap (guard_holds g e) is))
      by (Some guard) is = omega (arith, slice_get_within (map guard_of heap) n guard is, length_map guard_of heap)

  -- nothing holds behind the last slot
  pub holds_past : (heap : List Slot) (n : ℕ) → length heap ≤ n → holds_in g e heap n ≡ false
  holds_past heap n past = by (holds_in g e heap n) refl
    where
      by : (b : Bool) → holds_in g e heap n ≡ b → b ≡ false
      by true is = absurd (omega (arith, holds_there heap n is, past))
      by false is = refl

  pub holds_at : (heap : List Slot) (n : ℕ) (slot : Slot) → slice_get heap n ≡ Some slot → holds_in g e heap n ≡ bool_value g e (guard_of slot)
  holds_at heap n slot at = ap (guard_holds g e) (mapped_at guard_of heap n slot at)

  -- ---- which heaps grow to which

  pub HeapGrows-refl : (heap : List Slot) → HeapGrows g e heap heap
  HeapGrows-refl heap = record { same = λ n h k le. refl }

  pub HeapGrows-trans : {a b c : List Slot} → HeapGrows g e a b → HeapGrows g e b c → HeapGrows g e a c
  HeapGrows-trans p q = record { same = λ n h k le. q.same n (p.same n h n (omega arith) ∙ h) k le ∙ p.same n h k le }

  pub HoldAlike-refl : (heap : List Slot) → HoldAlike g e heap heap
  HoldAlike-refl heap = record { each = λ n. refl }

  pub HoldAlike-trans : {a b c : List Slot} → HoldAlike g e a b → HoldAlike g e b c → HoldAlike g e a c
  HoldAlike-trans p q = record { each = λ n. q.each n ∙ p.each n }

  -- where the guards are the same
  pub HoldAlike-same : {old new : List Slot} → map guard_of new ≡ map guard_of old → HoldAlike g e old new
  HoldAlike-same p = record { each = λ n. ap (λ l. guard_holds g e (slice_get l n)) p }

  pub alike_grows : {old new : List Slot} → HoldAlike g e old new → HeapGrows g e old new
  alike_grows h = record { same = λ n held k le. h.each k }

  pub alike_free : {old new : List Slot} {from : ℕ} → HoldAlike g e old new → AreFree g e old from → AreFree g e new from
  alike_free h free = record { each = λ n le. h.each n ∙ free.each n le }

  pub free_more : {heap : List Slot} {from to : ℕ} → from ≤ to → AreFree g e heap from → AreFree g e heap to
  free_more up free = record { each = λ n le. free.each n (omega (arith, up, le)) }

  pub free_past : (heap : List Slot) → AreFree g e heap (length heap)
  free_past heap = record { each = λ n le. holds_past heap n le }

  -- one slot more
  module _ (heap : List Slot) (slot : Slot) where
    pub pushed_same : (n : ℕ) → n < length heap → holds_in g e (heap ++ slot ∷ []) n ≡ holds_in g e heap n
    pushed_same n lt = by (slice_get (map guard_of heap) n) refl
      where
        no_less : {A : Type 0} (xs : List A) (i : ℕ) → i < length xs → slice_get xs i ≡ None → ⊥
        no_less [] i l h = omega (arith, l)
        no_less (x ∷ xs) zero l h = none-some x (sym h)
        no_less (x ∷ xs) (suc i) l h = no_less xs i (omega (arith, l)) h

        by : (o : Option BoolId) → slice_get (map guard_of heap) n ≡ o → holds_in g e (heap ++ slot ∷ []) n ≡ holds_in g e heap n
        by None is = absurd (no_less (map guard_of heap) n (omega (arith, lt, length_map guard_of heap)) is)
        by (Some guard) is = ap (guard_holds g e) (front_mapped guard_of heap slot n guard is) ∙ sym (ap (guard_holds g e) is)

    pub HeapGrows-push : HeapGrows g e heap (heap ++ slot ∷ [])
    HeapGrows-push = record { same = λ n h k le. pushed_same k (omega (arith, holds_there heap n h, le)) }

  module _ {old new : List Slot} (more : HeapGrows g e old new) where
    pub holds_more : (n : ℕ) → IsTrue (holds_in g e old n) → IsTrue (holds_in g e new n)
    holds_more n h = more.same n h n (omega arith) ∙ h

    pub place_same : (n : ℕ) → IsTrue (holds_in g e old n) → place_of (holds_in g e new) n ≡ place_of (holds_in g e old) n
    place_same n h = place_agrees (holds_in g e new) (holds_in g e old) n (λ k lt. more.same n h k (omega (arith, lt)))

    pub live_grows : (v : Seen) → IsLive (holds_in g e old) v → IsLive (holds_in g e new) v
    live_grows = live_more (holds_in g e old) (holds_in g e new) holds_more

    pub all_live_grows : (vs : List Seen) → AllLive (holds_in g e old) vs → AllLive (holds_in g e new) vs
    all_live_grows vs h = record { each = λ i d lt. live_grows _ (h.each i d lt) }

    pub seen_grows : (v : Seen) → IsLive (holds_in g e old) v → value_of (place_of (holds_in g e new)) v ≡ value_of (place_of (holds_in g e old)) v
    seen_grows = value_agrees (holds_in g e old) (place_of (holds_in g e new)) (place_of (holds_in g e old)) place_same

    -- a shape that is live is worth what it was
    pub value_grows : (s : Shape) → ShapeLive g e old s → value_in g e new s ≡ value_in g e old s
    value_grows s h = seen_grows (shape_value g e s) h

    pub shape_live_grows : (s : Shape) → ShapeLive g e old s → ShapeLive g e new s
    shape_live_grows s h = live_grows (shape_value g e s) h

    pub values_grow : (list : List Shape) → AllLive (holds_in g e old) (map (shape_value g e) list) → values_in g e new list ≡ values_in g e old list
    values_grow [] h = refl
    values_grow (s ∷ list) h = λ i. value_grows s (live_head (holds_in g e old) (shape_value g e s) (map (shape_value g e) list) h) i ∷ values_grow list (live_tail (holds_in g e old) (shape_value g e s) (map (shape_value g e) list) h) i
