-- What reads and writes of fields are to the records of a heap.
use Rattle.std.proofs.lemmas.Bool.{eqb-true, eq-eqb}
use Rattle.std.proofs.lemmas.Option.{none-some, same_Some, slice_get_within, get_or_from_slice_get, slice_get-map}
use Rattle.std.proofs.Common.{◌≡◌, ℕ, zero, suc, ◌==◌, ◌&&◌, Bool, true, false, true≢false, is_none, List, [], ◌∷◌, ◌++◌, map, IsTrue, Option, Some, None, option_map, slice_get, slice_set, slice_index_or, refl, sym, ap, subst, ◌∙◌, if◌then◌else◌, length}
use Rattle.sk_base.specs.declared.span.Span.{Span}
use Rattle.sk_dag.specs.declared.env.Env.{Env}
use Rattle.sk_dag.specs.declared.node.BoolId.{BoolId}
use Rattle.sk_dag.specs.declared.shape.Seen.{Seen}
use Rattle.sk_dag.specs.declared.shape.Seen.TheVariants as seen
use Rattle.sk_dag.specs.declared.shape.Shape.{Shape}
use Rattle.sk_dag.specs.declared.shape.Shape.TheVariants as shape
use Rattle.sk_dag.specs.declared.shape.Targets.{Targets}
use Rattle.sk_dag.specs.Graph.{Graph, Grows}
use Rattle.sk_dag.specs.Eval.{bool_value}
use Rattle.sk_dag.specs.EvalShape.{shape_value}
use Rattle.sk_arr.specs.Answers.{shapes_value}
use Rattle.sk_arr.proofs.Values.{value_reference}
use Rattle.sk_prog.specs.declared.ids.StructId.{StructId}
use Rattle.sk_prog.specs.declared.prog.Prog.{Prog}
use Rattle.sk_prog.specs.declared.value.Value.{Value}
use Rattle.sk_prog.specs.declared.value.Value.TheVariants as value
use Rattle.sk_model.specs.Step.{State, Goes, Fails}
use Rattle.sk_model.specs.Heap.{record_at, blank, read_field}
use Rattle.sk_heap.specs.declared.slot.Slot.{Slot}
use Rattle.sk_heap.specs.Fields.{field_in, field_value}
use Rattle.sk_heap.specs.Answers.{guard_of, slot_of, is_at, is_written, IsFieldRead, IsFieldWritten}
use Rattle.sk_heap.proofs.Heaps.{get_last, mapped_at}
use Rattle.sk_heap_laws.specs.Values.{place_of, guard_holds, holds_in, value_of, value_in, IsLive, ShapeLive}
use Rattle.sk_heap_laws.specs.Heaps.{records_of, record_in, heap_value, HeapLive, StructsGrow, HeapGrows, HoldAlike}
use Rattle.sk_heap_laws.proofs.Parts.{of_null, of_slot, slot_live}
use Rattle.sk_heap_laws.proofs.Grown.{StructsGrow-same, HoldAlike-same, alike_grows, holds_at, mapped_from}
use Rattle.sk_heap_laws.proofs.Records.{record_at_place, records_same, records_set}
use Rattle.sk_heap_laws.proofs.Heaps.{values_are}

-- ---- lists

module _ {A : Type 0} where
  pub index_is : (xs : List A) (i : ℕ) (x d : A) → slice_get xs i ≡ Some x → slice_index_or xs i d ≡ x
  index_is xs i x d h = get_or_from_slice_get xs i x d h

  -- lists are the same that have the same at each place
  pub same_at_each : (xs ys : List A) → ((i : ℕ) → slice_get xs i ≡ slice_get ys i) → xs ≡ ys
  same_at_each [] [] h = refl
  same_at_each [] (y ∷ ys) h = absurd (none-some y (h 0))
  same_at_each (x ∷ xs) [] h = absurd (none-some x (sym (h 0)))
  same_at_each (x ∷ xs) (y ∷ ys) h = λ i. same_Some x y (h 0) i ∷ same_at_each xs ys (λ k. h (suc k)) i

  pub get_set_here : (xs : List A) (i : ℕ) (x y : A) → slice_get xs i ≡ Some x → slice_get (slice_set xs i y) i ≡ Some y
  get_set_here [] i x y h = absurd (none-some x h)
  get_set_here (z ∷ xs) zero x y h = refl
  get_set_here (z ∷ xs) (suc i) x y h = get_set_here xs i x y h

  pub get_set_other : (xs : List A) (i j : ℕ) (y : A) → (j ≡ i → ⊥) → slice_get (slice_set xs i y) j ≡ slice_get xs j
  get_set_other [] i j y h = refl
  get_set_other (x ∷ xs) zero zero y h = absurd (h refl)
  get_set_other (x ∷ xs) zero (suc j) y h = refl
  get_set_other (x ∷ xs) (suc i) zero y h = refl
  get_set_other (x ∷ xs) (suc i) (suc j) y h = get_set_other xs i j y (λ e. h (ap suc e))

  pub map_set : {B : Type 0} (f : A → B) (xs : List A) (i : ℕ) (y : A) → map f (slice_set xs i y) ≡ slice_set (map f xs) i (f y)
  map_set f [] i y = refl
  map_set f (x ∷ xs) zero y = refl
  map_set f (x ∷ xs) (suc i) y = ap (λ l. f x ∷ l) (map_set f xs i y)

  -- the last of a list
  pub set_last : (xs : List A) (x y : A) → slice_set (xs ++ x ∷ []) (length xs) y ≡ xs ++ y ∷ []
  set_last [] x y = refl
  set_last (z ∷ xs) x y = ap (λ l. z ∷ l) (set_last xs x y)

  pub index_last : (xs : List A) (x d : A) → slice_index_or (xs ++ x ∷ []) (length xs) d ≡ x
  index_last xs x d = index_is (xs ++ x ∷ []) (length xs) x d (get_last xs x)

-- a field that has a value is one of a slot
pub field_of_slot : (g : Graph) (e : Env) (heap : List Slot) (n field : ℕ) (v : Seen) → field_value g e heap n field ≡ Some v → (slot : Slot) × (slice_get heap n ≡ Some slot) × (slice_get (shapes_value g e slot.fields) field ≡ Some v)
field_of_slot g e heap n field v h = by (slice_get heap n) refl
  where
    by : (o : Option Slot) → slice_get heap n ≡ o → (slot : Slot) × (slice_get heap n ≡ Some slot) × (slice_get (shapes_value g e slot.fields) field ≡ Some v)
    by None is = absurd (none-some v (sym (ap (λ o. option_map (shape_value g e) (field_in field o)) is) ∙ h))
    by (Some slot) is = (slot, is, slice_get-map (shape_value g e) slot.fields field ∙ sym (ap (λ o. option_map (shape_value g e) (field_in field o)) is) ∙ h)

pub value_of_slot : (g : Graph) (e : Env) (heap : List Slot) (n k : ℕ) (slot : Slot) → slice_get heap n ≡ Some slot → field_value g e heap n k ≡ slice_get (shapes_value g e slot.fields) k
value_of_slot g e heap n k slot at = ap (λ o. option_map (shape_value g e) (field_in k o)) at ∙ sym (slice_get-map (shape_value g e) slot.fields k)

-- ---- references

module _ (h : Graph) (e : Env) (heap : List Slot) (target : Targets) where
  -- a reference that is not null is at a slot, and one that is live at one that holds
  pub at_slot : (null : BoolId) → bool_value h e null ≡ is_none (slot_of h e target) → bool_value h e null ≡ false → (n : ℕ) × (slot_of h e target ≡ Some n)
  at_slot null is failing = by (slot_of h e target) refl
    where
      by : (o : Option ℕ) → slot_of h e target ≡ o → (n : ℕ) × (slot_of h e target ≡ Some n)
      by None at = absurd (true≢false (sym (ap is_none at) ∙ sym is ∙ failing))
      by (Some n) at = (n, at)

  pub at_null : (null : BoolId) → bool_value h e null ≡ is_none (slot_of h e target) → bool_value h e null ≡ true → value_in h e heap (shape.Reference target) ≡ value.Null
  at_null null is holding = ap (value_of (place_of (holds_in h e heap))) (value_reference h e target ∙ ap (λ o. seen.Slot o) (by (slot_of h e target) (sym is ∙ holding))) ∙ of_null (place_of (holds_in h e heap))
    where
      by : (o : Option ℕ) → is_none o ≡ true → o ≡ None
      by None t = refl
      by (Some n) t = absurd (true≢false (sym t))

  pub at_place : (n : ℕ) → slot_of h e target ≡ Some n → value_in h e heap (shape.Reference target) ≡ value.Place (place_of (holds_in h e heap) n)
  at_place n at = ap (value_of (place_of (holds_in h e heap))) (value_reference h e target ∙ ap (λ o. seen.Slot o) at) ∙ of_slot (place_of (holds_in h e heap)) n

  pub slot_holds : (n : ℕ) → slot_of h e target ≡ Some n → ShapeLive h e heap (shape.Reference target) → IsTrue (holds_in h e heap n)
  slot_holds n at live = slot_live (holds_in h e heap) n (subst (IsLive (holds_in h e heap)) (value_reference h e target ∙ ap (λ o. seen.Slot o) at) live)

-- the record at the place of a slot that holds
pub record_is : (h : Graph) (e : Env) (heap : List Slot) (n : ℕ) (slot : Slot) (st : State) → st.heap ≡ heap_value h e heap → slice_get heap n ≡ Some slot → IsTrue (holds_in h e heap n) → record_at st (place_of (holds_in h e heap) n) ≡ record_in h e heap slot
record_is h e heap n slot st is at holds =
    ap (λ l. slice_index_or l (place_of (holds_in h e heap) n) []) is
    ∙ index_is (heap_value h e heap) (place_of (holds_in h e heap) n) (record_in h e heap slot) []
    (record_at_place h e (record_in h e heap) heap n slot at (sym (holds_at h e heap n slot at) ∙ holds))

-- ---- reads

module _ {g : Graph} {heap : List Slot} {prog : Prog} {s : StructId} {target : Targets} {field : ℕ} {r : Shape} {null : BoolId} (is : IsFieldRead g heap prog s target field r null) {h : Graph} (more : Grows g h) (e : Env) where
  abbrev H : ℕ → Bool
  H = holds_in h e heap

  -- where the reference is null, a read fails
  pub read_null : bool_value h e null ≡ true → (span : Span) (st : State) → read_field span field (value_in h e heap (shape.Reference target)) st ≡ Fails span
  read_null holding span st = ap (λ v. read_field span field v st) (at_null h e heap target null (is.is_null.value h more e) holding)

  -- where it is not, it answers the field
  pub read_goes : ShapeLive h e heap (shape.Reference target) → bool_value h e null ≡ false → (span : Span) (st : State) → st.heap ≡ heap_value h e heap → read_field span field (value_in h e heap (shape.Reference target)) st ≡ Goes (value_in h e heap r) st
  read_goes live failing span st same =
      let n = at_slot h e heap target null (is.is_null.value h more e) failing in
      let found = field_of_slot h e heap n.0 field (shape_value h e r) (is.value h more e n.0 n.1) in
      let at = found.1 in
      ap (λ v. read_field span field v st) (at_place h e heap target n.0 n.1)
      ∙ ap (λ l. Goes (slice_index_or l field blank) st) (record_is h e heap n.0 found.0 st same at (slot_holds h e heap target n.0 n.1 live) ∙ values_are h e heap found.0.fields)
      ∙ ap (λ v. Goes v st) (index_is (map (value_of (place_of H)) (shapes_value h e found.0.fields)) field (value_in h e heap r) blank
      (mapped_at (value_of (place_of H)) (shapes_value h e found.0.fields) field (shape_value h e r) found.2))

  -- which is live, where the heap is
  pub read_live : HeapLive h e heap → ShapeLive h e heap (shape.Reference target) → bool_value h e null ≡ false → ShapeLive h e heap r
  read_live heap_live live failing =
      let n = at_slot h e heap target null (is.is_null.value h more e) failing in
      let found = field_of_slot h e heap n.0 field (shape_value h e r) (is.value h more e n.0 n.1) in
      let all = heap_live.each n.0 found.0 found.1 (sym (holds_at h e heap n.0 found.0 found.1) ∙ slot_holds h e heap target n.0 n.1 live) in
      subst (IsLive H) (index_is (shapes_value h e found.0.fields) field (shape_value h e r) (shape_value h e r) found.2)
      (all.each field (shape_value h e r) (slice_get_within (shapes_value h e found.0.fields) field (shape_value h e r) found.2))

-- ---- writes

module _ {g : Graph} {guard : BoolId} {target : Targets} {field : ℕ} {value : Shape} {old new : List Slot} (is : IsFieldWritten g guard target field value old new) where
  pub written_structs : StructsGrow old new
  written_structs = StructsGrow-same is.structs

  -- the same slots hold
  pub written_alike : (h : Graph) (e : Env) → HoldAlike h e old new
  written_alike h e = HoldAlike-same h e is.guards

  pub written_grows : (h : Graph) (e : Env) → HeapGrows h e old new
  written_grows h e = alike_grows h e (written_alike h e)

  module _ {h : Graph} (more : Grows g h) (e : Env) where
    abbrev W : ℕ → Bool
    W = holds_in h e old

    abbrev among : List BoolId → Slot → List Value
    among guards slot = map (λ s. value_of (place_of (λ n. guard_holds h e (slice_get guards n))) (shape_value h e s)) slot.fields

    -- the new records, with the places of the old slots
    new_heap : heap_value h e new ≡ records_of (bool_value h e) (record_in h e old) new
    new_heap = ap (λ guards. records_of (bool_value h e) (among guards) new) is.guards

    same_fields : (n : ℕ) (slot slot' : Slot) → slice_get old n ≡ Some slot → slice_get new n ≡ Some slot' → ((k : ℕ) → is_written h e guard target field n k ≡ false) → shapes_value h e slot'.fields ≡ shapes_value h e slot.fields
    same_fields n slot slot' at at' none = same_at_each (shapes_value h e slot'.fields) (shapes_value h e slot.fields) (λ k.
        sym (value_of_slot h e new n k slot' at')
        ∙ is.fields h more e n k
        ∙ ap (λ b. if b then Some (shape_value h e value) else field_value h e old n k) (none k)
        ∙ value_of_slot h e old n k slot at)

    same_record : (n : ℕ) (slot slot' : Slot) → slice_get old n ≡ Some slot → slice_get new n ≡ Some slot' → ((k : ℕ) → is_written h e guard target field n k ≡ false) → record_in h e old slot' ≡ record_in h e old slot
    same_record n slot slot' at at' none =
        values_are h e old slot'.fields ∙ ap (map (value_of (place_of W))) (same_fields n slot slot' at at' none) ∙ sym (values_are h e old slot.fields)

    -- nothing is written where the guard does not hold
    pub unwritten_heap : bool_value h e guard ≡ false → heap_value h e new ≡ heap_value h e old
    unwritten_heap failing = new_heap ∙ records_same h e (record_in h e old) old new is.guards (λ n slot slot' at at' holds not_there.
        same_record n slot slot' at at' (λ k. ap (λ b. b && (is_at (slot_of h e target) n && (k == field))) failing))

    not_equal : (n m : ℕ) → (m ≡ n → ⊥) → (n == m) ≡ false
    not_equal n m differ = by (n == m) refl
      where
        by : (b : Bool) → (n == m) ≡ b → b ≡ false
        by true e' = absurd (differ (sym (eqb-true n m e')))
        by false e' = refl

    -- nor where the reference is null
    pub unwritten_null : slot_of h e target ≡ None → heap_value h e new ≡ heap_value h e old
    unwritten_null null = new_heap ∙ records_same h e (record_in h e old) old new is.guards (λ n slot slot' at at' holds not_there.
        same_record n slot slot' at at' (λ k. ap (λ o. bool_value h e guard && (is_at o n && (k == field))) null ∙ none (bool_value h e guard)))
      where
        none : (b : Bool) → (b && false) ≡ false
        none true = refl
        none false = refl

    -- the slot of the reference, and the field there
    module _ (n : ℕ) (slot : Slot) (old_value : Shape) (target_at : slot_of h e target ≡ Some n) (at : slice_get old n ≡ Some slot) (there : slice_get slot.fields field ≡ Some old_value) (holding : bool_value h e guard ≡ true) where
      is_there : (m k : ℕ) → is_written h e guard target field m k ≡ ((n == m) && (k == field))
      is_there m k = λ i. holding i && (is_at (target_at i) m && (k == field))

      -- the slot after the write
      after : (slot' : Slot) × (slice_get new n ≡ Some slot')
      after = let found = mapped_from guard_of new n slot.guard (ap (λ l. slice_get l n) is.guards ∙ mapped_at guard_of old n slot at) in (found.0, found.1)

      fields_set : shapes_value h e after.0.fields ≡ slice_set (shapes_value h e slot.fields) field (shape_value h e value)
      fields_set = same_at_each (shapes_value h e after.0.fields) (slice_set (shapes_value h e slot.fields) field (shape_value h e value)) (λ k.
          sym (value_of_slot h e new n k after.0 after.1) ∙ is.fields h more e n k ∙ ap (λ b. if b then Some (shape_value h e value) else field_value h e old n k) (is_there n k ∙ ap (λ b. b && (k == field)) (eq-eqb n n refl)) ∙ by k (k == field) refl)
        where
          by : (k : ℕ) (b : Bool) → (k == field) ≡ b → (if b then Some (shape_value h e value) else field_value h e old n k) ≡ slice_get (slice_set (shapes_value h e slot.fields) field (shape_value h e value)) k
          by k true q =
              sym (get_set_here (shapes_value h e slot.fields) field (shape_value h e old_value) (shape_value h e value) (mapped_at (shape_value h e) slot.fields field old_value there))
              ∙ ap (slice_get (slice_set (shapes_value h e slot.fields) field (shape_value h e value))) (sym (eqb-true k field q))
          by k false q =
              value_of_slot h e old n k slot at
              ∙ sym (get_set_other (shapes_value h e slot.fields) field k (shape_value h e value) (λ same. true≢false (sym (eq-eqb k field same) ∙ q)))

      record_set : record_in h e old after.0 ≡ slice_set (record_in h e old slot) field (value_in h e old value)
      record_set =
          values_are h e old after.0.fields
          ∙ ap (map (value_of (place_of W))) fields_set
          ∙ map_set (value_of (place_of W)) (shapes_value h e slot.fields) field (shape_value h e value)
          ∙ ap (λ l. slice_set l field (value_in h e old value)) (sym (values_are h e old slot.fields))

      -- the record at its place has the value in the place of the field
      pub set_heap : IsTrue (holds_in h e old n) → heap_value h e new ≡ slice_set (heap_value h e old) (place_of (holds_in h e old) n) (slice_set (record_in h e old slot) field (value_in h e old value))
      set_heap holds =
          new_heap
          ∙ records_set h e (record_in h e old) old new n slot after.0 (slice_set (record_in h e old slot) field (value_in h e old value)) is.guards at after.1
          (sym (holds_at h e old n slot at) ∙ holds) record_set
          (λ m s s' p p' q differ. same_record m s s' p p' (λ k. is_there m k ∙ ap (λ b. b && (k == field)) (not_equal n m differ)))
