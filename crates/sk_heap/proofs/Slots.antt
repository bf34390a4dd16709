-- The slots with one field replaced.
use Rattle.std.proofs.lemmas.Option.{none-some, same_Some, slice_get_within, slice_get-map, slice_get_read, get_or_from_slice_get}
use Rattle.std.proofs.Common.{◌≡◌, ◌≢◌, ℕ, zero, suc, ◌<◌, List, [], ◌∷◌, length, map, slice_get, slice_set, get_or, Option, Some, None, option_map, refl, sym, ap, ◌∙◌, arith}
use Rattle.sk_dag.specs.declared.shape.Shape.{Shape}
use Rattle.sk_heap.specs.declared.slot.Slot.{Slot}
use Rattle.sk_heap.specs.Fields.{field_at, field_in, with_field, HasField}
use Rattle.sk_heap.specs.Steps.{frame}

module _ {A : Type 0} where
  set_here : (xs : List A) (i : ℕ) (y : A) → i < length xs → slice_get (slice_set xs i y) i ≡ Some y
  set_here [] i y l = absurd (omega (arith, l))
  set_here (x ∷ xs) zero y l = refl
  set_here (x ∷ xs) (suc i) y l = set_here xs i y (omega (arith, l))

  set_there : (xs : List A) (i j : ℕ) (y : A) → j ≢ i → slice_get (slice_set xs i y) j ≡ slice_get xs j
  set_there [] i j y h = refl
  set_there (x ∷ xs) zero zero y h = absurd (h refl)
  set_there (x ∷ xs) zero (suc j) y h = refl
  set_there (x ∷ xs) (suc i) zero y h = refl
  set_there (x ∷ xs) (suc i) (suc j) y h = set_there xs i j y (λ e. h (ap suc e))

  length_set : (xs : List A) (i : ℕ) (y : A) → length (slice_set xs i y) ≡ length xs
  length_set [] i y = refl
  length_set (x ∷ xs) zero y = refl
  length_set (x ∷ xs) (suc i) y = ap suc (length_set xs i y)

pub put_here : (heap : List Slot) (n field : ℕ) (r old : Shape) → field_at heap n field ≡ Some old → field_at (with_field heap n field r) n field ≡ Some r
put_here [] n field r old found = absurd (none-some old found)
put_here (x ∷ xs) zero field r old found = set_here x.fields field r (slice_get_within x.fields field old found)
put_here (x ∷ xs) (suc n) field r old found = put_here xs n field r old found

pub put_other_slot : (heap : List Slot) (n field : ℕ) (r : Shape) (m k : ℕ) → m ≢ n → field_at (with_field heap n field r) m k ≡ field_at heap m k
put_other_slot [] n field r m k h = refl
put_other_slot (x ∷ xs) zero field r zero k h = absurd (h refl)
put_other_slot (x ∷ xs) zero field r (suc m) k h = refl
put_other_slot (x ∷ xs) (suc n) field r zero k h = refl
put_other_slot (x ∷ xs) (suc n) field r (suc m) k h = put_other_slot xs n field r m k (λ e. h (ap suc e))

pub put_other_field : (heap : List Slot) (n field : ℕ) (r : Shape) (m k : ℕ) → k ≢ field → field_at (with_field heap n field r) m k ≡ field_at heap m k
put_other_field [] n field r m k h = refl
put_other_field (x ∷ xs) zero field r zero k h = set_there x.fields field k r h
put_other_field (x ∷ xs) zero field r (suc m) k h = refl
put_other_field (x ∷ xs) (suc n) field r zero k h = refl
put_other_field (x ∷ xs) (suc n) field r (suc m) k h = put_other_field xs n field r m k h

pub put_frames : (heap : List Slot) (n field : ℕ) (r : Shape) → map frame (with_field heap n field r) ≡ map frame heap
put_frames [] n field r = refl
put_frames (x ∷ xs) zero field r = ap (λ l. (x.guard, x.of, l) ∷ map frame xs) (length_set x.fields field r)
put_frames (x ∷ xs) (suc n) field r = ap (λ l. frame x ∷ l) (put_frames xs n field r)

-- a field is that of a slot that is there
pub slot_there : (heap : List Slot) (n field : ℕ) (r : Shape) → field_at heap n field ≡ Some r → (slot : Slot) × (slice_get heap n ≡ Some slot) × (slice_get slot.fields field ≡ Some r)
slot_there [] n field r found = absurd (none-some r found)
slot_there (x ∷ xs) zero field r found = (x, refl, found)
slot_there (x ∷ xs) (suc n) field r found = slot_there xs n field r found

pub field_there : (heap : List Slot) (n field : ℕ) (slot : Slot) (r : Shape) → slice_get heap n ≡ Some slot → slice_get slot.fields field ≡ Some r → field_at heap n field ≡ Some r
field_there heap n field slot r at found = ap (field_in field) at ∙ found

-- in lists with the same frames a slot has one with the same frame
pub frame_there : (old new : List Slot) (n : ℕ) (slot : Slot) → map frame new ≡ map frame old → slice_get new n ≡ Some slot → (was : Slot) × (slice_get old n ≡ Some was) × (frame slot ≡ frame was)
frame_there old new n slot same at = by (slice_get old n) refl
  where
    seen : Some (frame slot) ≡ option_map frame (slice_get old n)
    seen = sym (ap (option_map frame) at) ∙ sym (slice_get-map frame new n) ∙ ap (λ fs. slice_get fs n) same ∙ slice_get-map frame old n

    by : (o : Option Slot) → slice_get old n ≡ o → (was : Slot) × (slice_get old n ≡ Some was) × (frame slot ≡ frame was)
    by None e = absurd (none-some (frame slot) (sym (seen ∙ ap (option_map frame) e)))
    by (Some was) e = (was, e, same_Some (frame slot) (frame was) (seen ∙ ap (option_map frame) e))

-- ---- in the words of an index

pub has_slot : {heap : List Slot} {n field : ℕ} → HasField heap n field → n < length heap
has_slot {heap} {n} {field} h = let there = slot_there heap n field h.shape h.found in slice_get_within heap n there.0 there.1

pub has_field_in : {heap : List Slot} {n field : ℕ} (x : Slot) → HasField heap n field → x ≡ get_or heap n x → field < length x.fields
has_field_in {heap} {n} {field} x h is =
    let there = slot_there heap n field h.shape h.found in
    let same : there.0 ≡ x = sym (get_or_from_slice_get heap n there.0 x there.1) ∙ sym is in
    let within = slice_get_within there.0.fields field h.shape there.2 in
    omega (arith, within, ap (λ y. length y.fields) same)

pub field_is : {heap : List Slot} {n field : ℕ} (x : Slot) (r : Shape) → HasField heap n field → x ≡ get_or heap n x → r ≡ get_or x.fields field r → field_at heap n field ≡ Some r
field_is {heap} {n} {field} x r h is at = field_there heap n field x r (slice_get_read heap (length heap) n x refl (has_slot h) is) (slice_get_read x.fields (length x.fields) field r refl (has_field_in x h is) at)

-- a slot with other fields
abbrev pub refitted : Slot → List Shape → Slot
refitted x fs = record { guard = x.guard; of = x.of; fields = fs }

abbrev pub fitted : ℕ → Shape → Slot → Slot
fitted field r x = refitted x (slice_set x.fields field r)

pub put_is : (heap : List Slot) (n field : ℕ) (r : Shape) (x : Slot) → n < length heap → x ≡ get_or heap n x → slice_set heap n (fitted field r x) ≡ with_field heap n field r
put_is [] n field r x l is = refl
put_is (y ∷ ys) zero field r x l is = ap (λ z. fitted field r z ∷ ys) is
put_is (y ∷ ys) (suc n) field r x l is = ap (λ zs. y ∷ zs) (put_is ys n field r x (omega (arith, l)) is)

pub put_at : (heap : List Slot) (n field : ℕ) (r : Shape) (x : Slot) (fs : List Shape) → HasField heap n field → x ≡ get_or heap n x → fs ≡ slice_set x.fields field r → slice_set heap n (refitted x fs) ≡ with_field heap n field r
put_at heap n field r x fs h is set = ap (λ l. slice_set heap n (refitted x l)) set ∙ put_is heap n field r x (has_slot h) is
