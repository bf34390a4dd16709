-- Values of what is live are equal where they are seen as the same.
use Rattle.std.proofs.lemmas.Bool.{eqb-true, eq-eqb}
use Rattle.std.proofs.lemmas.Bool.Decides.{Decides-int_eq}
use Rattle.std.proofs.lemmas.Grind.{common_steps}
use Rattle.std.proofs.Common.{◌≡◌, ℕ, ℤ, Bool, true, false, true≢false, ◌&&◌, ◌==◌, List, [], ◌∷◌, map, Option, Some, None, All, ◌↔◌, refl, sym, ap, ◌∙◌, arith}
use Rattle.std.proofs.lemmas.List.Elements.{All-head, All-tail}
use Rattle.std.specs.Ordering.{int_eq}
use Rattle.sk_dag.specs.declared.shape.Seen.{Seen}
use Rattle.sk_dag.specs.declared.shape.Seen.TheVariants as seen
use Rattle.sk_prog.specs.declared.value.Value.{Value}
use Rattle.sk_prog.specs.declared.value.Value.TheVariants as value
use Rattle.sk_prog.specs.declared.value.Value.TheFolds.{the_lemmas as value_lemmas}
use Rattle.sk_prog.specs.declared.value.Value.TheBlock.{Row_of-Value, end_of-Value, more_of-Value, items-the_row-Value, items_hidden-the_row-Value-0, hidden-the_row-Value-0}
use Rattle.sk_model.specs.Values.{equal, same_bit, same_each}
use Rattle.sk_heap_laws.specs.Values.{place_of, value_of, IsLive, AllLive}
use Rattle.sk_heap_laws.proofs.Parts.{seen_law, of_bit, of_int, of_null, of_slot, of_array, slot_live, array_live, live_head, live_tail}
use Rattle.sk_heap_laws.proofs.Values.{place_own}

-- ---- arrays

abbrev same_lists : List (Value → Bool) → List Value → Bool
same_lists [] [] = true
same_lists (p ∷ ps) (v ∷ vs) = p v && same_lists ps vs
same_lists _ _ = false

same_each_is : {m : _} (ps : List (Value → Bool)) (k : Row_of-Value m) → same_each ps k ≡ same_lists ps (items-the_row-Value _ k)
same_each_is [] end_of-Value = refl
same_each_is [] (more_of-Value v vs) = refl
same_each_is (p ∷ ps) end_of-Value = refl
same_each_is (p ∷ ps) (more_of-Value v vs) = ap (λ b. p v && b) (same_each_is ps vs)

roll : (xs ys : List Value) → equal (value.Array xs) (value.Array ys) ≡ same_each (map equal xs) (hidden-the_row-Value-0 ys)
roll xs ys = grind (arith, common_steps, value_lemmas)

pub equal_arrays : (xs ys : List Value) → equal (value.Array xs) (value.Array ys) ≡ same_lists (map equal xs) ys
equal_arrays xs ys = roll xs ys ∙ same_each_is (map equal xs) (hidden-the_row-Value-0 ys) ∙ ap (same_lists (map equal xs)) (items_hidden-the_row-Value-0 ys)

-- ---- single values

equal_bits : (a b : Bool) → equal (value.Bit a) (value.Bit b) ≡ same_bit a b
equal_bits a b = grind (arith, common_steps, value_lemmas)

equal_ints : (a b : ℤ) → equal (value.Int a) (value.Int b) ≡ int_eq a b
equal_ints a b = grind (arith, common_steps, value_lemmas)

equal_nulls : equal value.Null value.Null ≡ true
equal_nulls = grind (arith, common_steps, value_lemmas)

equal_places : (a b : ℕ) → equal (value.Place a) (value.Place b) ≡ (a == b)
equal_places a b = grind (arith, common_steps, value_lemmas)

-- ---- values of two forms are not equal

bit_int : (a : Bool) (b : ℤ) → equal (value.Bit a) (value.Int b) ≡ false
bit_int a b = grind (arith, common_steps, value_lemmas)

bit_null : (a : Bool) → equal (value.Bit a) value.Null ≡ false
bit_null a = grind (arith, common_steps, value_lemmas)

bit_place : (a : Bool) (b : ℕ) → equal (value.Bit a) (value.Place b) ≡ false
bit_place a b = grind (arith, common_steps, value_lemmas)

bit_array : (a : Bool) (b : List Value) → equal (value.Bit a) (value.Array b) ≡ false
bit_array a b = grind (arith, common_steps, value_lemmas)

int_bit : (a : ℤ) (b : Bool) → equal (value.Int a) (value.Bit b) ≡ false
int_bit a b = grind (arith, common_steps, value_lemmas)

int_null : (a : ℤ) → equal (value.Int a) value.Null ≡ false
int_null a = grind (arith, common_steps, value_lemmas)

int_place : (a : ℤ) (b : ℕ) → equal (value.Int a) (value.Place b) ≡ false
int_place a b = grind (arith, common_steps, value_lemmas)

int_array : (a : ℤ) (b : List Value) → equal (value.Int a) (value.Array b) ≡ false
int_array a b = grind (arith, common_steps, value_lemmas)

null_bit : (b : Bool) → equal value.Null (value.Bit b) ≡ false
null_bit b = grind (arith, common_steps, value_lemmas)

null_int : (b : ℤ) → equal value.Null (value.Int b) ≡ false
null_int b = grind (arith, common_steps, value_lemmas)

null_place : (b : ℕ) → equal value.Null (value.Place b) ≡ false
null_place b = grind (arith, common_steps, value_lemmas)

null_array : (b : List Value) → equal value.Null (value.Array b) ≡ false
null_array b = grind (arith, common_steps, value_lemmas)

place_bit : (a : ℕ) (b : Bool) → equal (value.Place a) (value.Bit b) ≡ false
place_bit a b = grind (arith, common_steps, value_lemmas)

place_int : (a : ℕ) (b : ℤ) → equal (value.Place a) (value.Int b) ≡ false
place_int a b = grind (arith, common_steps, value_lemmas)

place_null : (a : ℕ) → equal (value.Place a) value.Null ≡ false
place_null a = grind (arith, common_steps, value_lemmas)

place_array : (a : ℕ) (b : List Value) → equal (value.Place a) (value.Array b) ≡ false
place_array a b = grind (arith, common_steps, value_lemmas)

array_bit : (a : List Value) (b : Bool) → equal (value.Array a) (value.Bit b) ≡ false
array_bit a b = grind (arith, common_steps, value_lemmas)

array_int : (a : List Value) (b : ℤ) → equal (value.Array a) (value.Int b) ≡ false
array_int a b = grind (arith, common_steps, value_lemmas)

array_null : (a : List Value) → equal (value.Array a) value.Null ≡ false
array_null a = grind (arith, common_steps, value_lemmas)

array_place : (a : List Value) (b : ℕ) → equal (value.Array a) (value.Place b) ≡ false
array_place a b = grind (arith, common_steps, value_lemmas)

-- ---- a value is equal to itself

same_bit_self : (b : Bool) → same_bit b b ≡ true
same_bit_self true = refl
same_bit_self false = refl

same_bit_true : (a b : Bool) → same_bit a b ≡ true → a ≡ b
same_bit_true true b h = sym h
same_bit_true false true h = absurd (true≢false (sym h))
same_bit_true false false h = refl

and_two : (a b : Bool) → (a && b) ≡ true → (a ≡ true) × (b ≡ true)
and_two true b h = (refl, h)
and_two false b h = absurd (true≢false (sym h))

module _ (place : ℕ → ℕ) where
  abbrev U : Seen → Value
  U = value_of place

  abbrev Self : Seen → Type 0
  Self v = equal (U v) (U v) ≡ true

  selves : (vs : List Seen) → All Self vs → same_lists (map equal (map U vs)) (map U vs) ≡ true
  selves [] h = refl
  selves (v ∷ vs) h = ap (λ b. b && same_lists (map equal (map U vs)) (map U vs)) (All-head Self v vs h) ∙ selves vs (All-tail Self v vs h)

  pub equal_self : (v : Seen) → Self v
  equal_self = seen_law Self
      (λ b. (λ i. equal (of_bit place b i) (of_bit place b i)) ∙ equal_bits b b ∙ same_bit_self b)
      (λ z. (λ i. equal (of_int place z i) (of_int place z i)) ∙ equal_ints z z ∙ (Decides-int_eq z z).1 refl)
      slot
      (λ vs below. (λ i. equal (of_array place vs i) (of_array place vs i)) ∙ equal_arrays (map U vs) (map U vs) ∙ selves vs below)
    where
      slot : (s : Option ℕ) → equal (value_of place (seen.Slot s)) (value_of place (seen.Slot s)) ≡ true
      slot None = (λ i. equal (of_null place i) (of_null place i)) ∙ equal_nulls
      slot (Some n) = (λ i. equal (of_slot place n i) (of_slot place n i)) ∙ equal_places (place n) (place n) ∙ eq-eqb (place n) (place n) refl

  -- ---- and to no other

  over : (v w : Seen) (x y : Value) → U v ≡ x → U w ≡ y → equal (U v) (U w) ≡ true → equal x y ≡ true
  over v w x y p q h = sym (λ i. equal (p i) (q i)) ∙ h

  clash : {A : Type 0} (v w : Seen) (x y : Value) → U v ≡ x → U w ≡ y → equal x y ≡ false → equal (U v) (U w) ≡ true → A
  clash v w x y p q differ h = absurd (true≢false (sym (over v w x y p q h) ∙ differ))

-- the slots that hold have the places of the slots before them
module _ (holds : ℕ → Bool) where
  abbrev pub T : Seen → Value
  T = value_of (place_of holds)

  abbrev Same : Seen → Type 0
  Same v = (w : Seen) → IsLive holds v → IsLive holds w → equal (T v) (T w) ≡ true → v ≡ w

  same_bits : (a : Bool) → Same (seen.Bit a)
  same_bits a w h k = by w
    where
      p : T (seen.Bit a) ≡ value.Bit a
      p = of_bit (place_of holds) a

      slot : (s : Option ℕ) → equal (T (seen.Bit a)) (T (seen.Slot s)) ≡ true → seen.Bit a ≡ seen.Slot s
      slot None = clash (place_of holds) (seen.Bit a) (seen.Slot None) (value.Bit a) value.Null p (of_null (place_of holds)) (bit_null a)
      slot (Some n) = clash (place_of holds) (seen.Bit a) (seen.Slot (Some n)) (value.Bit a) (value.Place (place_of holds n)) p (of_slot (place_of holds) n) (bit_place a (place_of holds n))

      by : (w : Seen) → equal (T (seen.Bit a)) (T w) ≡ true → seen.Bit a ≡ w
      by = seen_law (λ w. equal (T (seen.Bit a)) (T w) ≡ true → seen.Bit a ≡ w)
          (λ b e. ap (λ c. seen.Bit c) (same_bit_true a b (sym (equal_bits a b) ∙ over (place_of holds) (seen.Bit a) (seen.Bit b) (value.Bit a) (value.Bit b) p (of_bit (place_of holds) b) e)))
          (λ z. clash (place_of holds) (seen.Bit a) (seen.Int z) (value.Bit a) (value.Int z) p (of_int (place_of holds) z) (bit_int a z))
          slot
          (λ vs below. clash (place_of holds) (seen.Bit a) (seen.Array vs) (value.Bit a) (value.Array (map T vs)) p (of_array (place_of holds) vs) (bit_array a (map T vs)))

  same_ints : (a : ℤ) → Same (seen.Int a)
  same_ints a w h k = by w
    where
      p : T (seen.Int a) ≡ value.Int a
      p = of_int (place_of holds) a

      slot : (s : Option ℕ) → equal (T (seen.Int a)) (T (seen.Slot s)) ≡ true → seen.Int a ≡ seen.Slot s
      slot None = clash (place_of holds) (seen.Int a) (seen.Slot None) (value.Int a) value.Null p (of_null (place_of holds)) (int_null a)
      slot (Some n) = clash (place_of holds) (seen.Int a) (seen.Slot (Some n)) (value.Int a) (value.Place (place_of holds n)) p (of_slot (place_of holds) n) (int_place a (place_of holds n))

      by : (w : Seen) → equal (T (seen.Int a)) (T w) ≡ true → seen.Int a ≡ w
      by = seen_law (λ w. equal (T (seen.Int a)) (T w) ≡ true → seen.Int a ≡ w)
          (λ b. clash (place_of holds) (seen.Int a) (seen.Bit b) (value.Int a) (value.Bit b) p (of_bit (place_of holds) b) (int_bit a b))
          (λ z e. ap (λ c. seen.Int c) ((Decides-int_eq a z).0 (sym (equal_ints a z) ∙ over (place_of holds) (seen.Int a) (seen.Int z) (value.Int a) (value.Int z) p (of_int (place_of holds) z) e)))
          slot
          (λ vs below. clash (place_of holds) (seen.Int a) (seen.Array vs) (value.Int a) (value.Array (map T vs)) p (of_array (place_of holds) vs) (int_array a (map T vs)))

  same_nulls : Same (seen.Slot None)
  same_nulls w h k = by w
    where
      p : T (seen.Slot None) ≡ value.Null
      p = of_null (place_of holds)

      slot : (s : Option ℕ) → equal (T (seen.Slot None)) (T (seen.Slot s)) ≡ true → seen.Slot None ≡ seen.Slot s
      slot None e = refl
      slot (Some n) e = clash (place_of holds) (seen.Slot None) (seen.Slot (Some n)) value.Null (value.Place (place_of holds n)) p (of_slot (place_of holds) n) (null_place (place_of holds n)) e

      by : (w : Seen) → equal (T (seen.Slot None)) (T w) ≡ true → seen.Slot None ≡ w
      by = seen_law (λ w. equal (T (seen.Slot None)) (T w) ≡ true → seen.Slot None ≡ w)
          (λ b. clash (place_of holds) (seen.Slot None) (seen.Bit b) value.Null (value.Bit b) p (of_bit (place_of holds) b) (null_bit b))
          (λ z. clash (place_of holds) (seen.Slot None) (seen.Int z) value.Null (value.Int z) p (of_int (place_of holds) z) (null_int z))
          slot
          (λ vs below. clash (place_of holds) (seen.Slot None) (seen.Array vs) value.Null (value.Array (map T vs)) p (of_array (place_of holds) vs) (null_array (map T vs)))

  same_places : (m : ℕ) → Same (seen.Slot (Some m))
  same_places m w h = by w
    where
      p : T (seen.Slot (Some m)) ≡ value.Place (place_of holds m)
      p = of_slot (place_of holds) m

      slot : (s : Option ℕ) → IsLive holds (seen.Slot s) → equal (T (seen.Slot (Some m))) (T (seen.Slot s)) ≡ true → seen.Slot (Some m) ≡ seen.Slot s
      slot None k e = clash (place_of holds) (seen.Slot (Some m)) (seen.Slot None) (value.Place (place_of holds m)) value.Null p (of_null (place_of holds)) (place_null (place_of holds m)) e
      slot (Some n) k e = ap (λ i. seen.Slot (Some i)) (place_own holds m n (slot_live holds m h) (slot_live holds n k)
          (eqb-true (place_of holds m) (place_of holds n) (sym (equal_places (place_of holds m) (place_of holds n)) ∙ over (place_of holds) (seen.Slot (Some m)) (seen.Slot (Some n)) (value.Place (place_of holds m)) (value.Place (place_of holds n)) p (of_slot (place_of holds) n) e)))

      by : (w : Seen) → IsLive holds w → equal (T (seen.Slot (Some m))) (T w) ≡ true → seen.Slot (Some m) ≡ w
      by = seen_law (λ w. IsLive holds w → equal (T (seen.Slot (Some m))) (T w) ≡ true → seen.Slot (Some m) ≡ w)
          (λ b k. clash (place_of holds) (seen.Slot (Some m)) (seen.Bit b) (value.Place (place_of holds m)) (value.Bit b) p (of_bit (place_of holds) b) (place_bit (place_of holds m) b))
          (λ z k. clash (place_of holds) (seen.Slot (Some m)) (seen.Int z) (value.Place (place_of holds m)) (value.Int z) p (of_int (place_of holds) z) (place_int (place_of holds m) z))
          slot
          (λ vs below k. clash (place_of holds) (seen.Slot (Some m)) (seen.Array vs) (value.Place (place_of holds m)) (value.Array (map T vs)) p (of_array (place_of holds) vs) (place_array (place_of holds m) (map T vs)))

  lists : (vs ws : List Seen) → All Same vs → AllLive holds vs → AllLive holds ws → same_lists (map equal (map T vs)) (map T ws) ≡ true → vs ≡ ws
  lists [] [] below h k e = refl
  lists [] (w ∷ ws) below h k e = absurd (true≢false (sym e))
  lists (v ∷ vs) [] below h k e = absurd (true≢false (sym e))
  lists (v ∷ vs) (w ∷ ws) below h k e =
      let two = and_two (equal (T v) (T w)) (same_lists (map equal (map T vs)) (map T ws)) e in
      λ i. All-head Same v vs below w (live_head holds v vs h) (live_head holds w ws k) two.0 i
      ∷ lists vs ws (All-tail Same v vs below) (live_tail holds v vs h) (live_tail holds w ws k) two.1 i

  same_arrays : (vs : List Seen) → All Same vs → Same (seen.Array vs)
  same_arrays vs below w h = by w
    where
      p : T (seen.Array vs) ≡ value.Array (map T vs)
      p = of_array (place_of holds) vs

      slot : (s : Option ℕ) → IsLive holds (seen.Slot s) → equal (T (seen.Array vs)) (T (seen.Slot s)) ≡ true → seen.Array vs ≡ seen.Slot s
      slot None k e = clash (place_of holds) (seen.Array vs) (seen.Slot None) (value.Array (map T vs)) value.Null p (of_null (place_of holds)) (array_null (map T vs)) e
      slot (Some n) k e = clash (place_of holds) (seen.Array vs) (seen.Slot (Some n)) (value.Array (map T vs)) (value.Place (place_of holds n)) p (of_slot (place_of holds) n) (array_place (map T vs) (place_of holds n)) e

      by : (w : Seen) → IsLive holds w → equal (T (seen.Array vs)) (T w) ≡ true → seen.Array vs ≡ w
      by = seen_law (λ w. IsLive holds w → equal (T (seen.Array vs)) (T w) ≡ true → seen.Array vs ≡ w)
          (λ b k. clash (place_of holds) (seen.Array vs) (seen.Bit b) (value.Array (map T vs)) (value.Bit b) p (of_bit (place_of holds) b) (array_bit (map T vs) b))
          (λ z k. clash (place_of holds) (seen.Array vs) (seen.Int z) (value.Array (map T vs)) (value.Int z) p (of_int (place_of holds) z) (array_int (map T vs) z))
          slot
          (λ ws others k e. ap (λ l. seen.Array l) (lists vs ws below (array_live holds vs h) (array_live holds ws k)
          (sym (equal_arrays (map T vs) (map T ws)) ∙ over (place_of holds) (seen.Array vs) (seen.Array ws) (value.Array (map T vs)) (value.Array (map T ws)) p (of_array (place_of holds) ws) e)))

  same_slots : (s : Option ℕ) → Same (seen.Slot s)
  same_slots None = same_nulls
  same_slots (Some m) = same_places m

  -- two that are live are equal as values exactly where they are seen as the same
  pub equal_is : (v w : Seen) → IsLive holds v → IsLive holds w → (equal (value_of (place_of holds) v) (value_of (place_of holds) w) ≡ true) ↔ (v ≡ w)
  equal_is v w h k = (
    λ e. seen_law Same same_bits same_ints same_slots same_arrays v w h k e,
    λ e. ap (λ x. equal (T v) (T x)) (sym e) ∙ equal_self (place_of holds) v,
  )
