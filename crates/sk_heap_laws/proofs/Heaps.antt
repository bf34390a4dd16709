-- The records of a heap and the values of its slots, in other words; and zeros.
use Rattle.std.proofs.Common.{◌≡◌, ℕ, zero, suc, Bool, true, false, List, [], ◌∷◌, map, replicate, Option, Some, None, slice_get, refl, ap, ◌∙◌, if◌then◌else◌}
use Rattle.sk_dag.specs.declared.env.Env.{Env}
use Rattle.sk_dag.specs.declared.node.BoolId.{BoolId}
use Rattle.sk_dag.specs.declared.shape.Seen.{Seen}
use Rattle.sk_dag.specs.declared.shape.Seen.TheVariants as seen
use Rattle.sk_dag.specs.declared.shape.Shape.{Shape}
use Rattle.sk_dag.specs.Graph.{Graph}
use Rattle.sk_dag.specs.Eval.{bool_value}
use Rattle.sk_arr.specs.Answers.{shapes_value}
use Rattle.sk_prog.specs.declared.ids.StructId.{StructId}
use Rattle.sk_prog.specs.declared.ty.Elem.{Elem}
use Rattle.sk_prog.specs.declared.ty.Elem.TheVariants as elem
use Rattle.sk_prog.specs.declared.ty.Ty.{Ty}
use Rattle.sk_prog.specs.declared.ty.Ty.TheVariants as ty
use Rattle.sk_prog.specs.declared.prog.FieldDef.{FieldDef}
use Rattle.sk_prog.specs.declared.prog.StructDef.{StructDef}
use Rattle.sk_prog.specs.declared.prog.Prog.{Prog}
use Rattle.sk_prog.specs.declared.value.Value.TheVariants as value
use Rattle.sk_model.specs.Values.{zero_of_elem, zero_of}
use Rattle.sk_model.specs.Heap.{zeros_of}
use Rattle.sk_heap.specs.declared.slot.Slot.{Slot}
use Rattle.sk_heap.specs.Types.{form_of_elem, form_of, type_in, fields_in, field_types}
use Rattle.sk_heap_laws.specs.Values.{place_of, holds_in, value_of, value_in, values_in, IsLive, AllLive}
use Rattle.sk_heap_laws.specs.Heaps.{records_of, record_in, heap_value, HeapLive, HeapGrows}
use Rattle.sk_heap_laws.proofs.Parts.{of_bit, of_int, of_null, of_array, live_bit, live_int, live_null, live_array, live_nil, live_cons}
use Rattle.sk_heap_laws.proofs.Grown.{values_grow}

-- ---- zeros

module _ {A B : Type 0} where
  pub map_replicate : (f : A → B) (n : ℕ) (x : A) → map f (replicate n x) ≡ replicate n (f x)
  map_replicate f zero x = refl
  map_replicate f (suc n) x = ap (λ l. f x ∷ l) (map_replicate f n x)

module _ (place : ℕ → ℕ) where
  elem_zero : (t : Elem) → value_of place (form_of_elem t) ≡ zero_of_elem t
  elem_zero elem.Bit = of_bit place _
  elem_zero elem.Int = of_int place _
  elem_zero (elem.Reference s) = of_null place

  pub array_zero : (n : ℕ) (v : Seen) → value_of place (seen.Array (replicate n v)) ≡ value.Array (replicate n (value_of place v))
  array_zero n v = of_array place (replicate n v) ∙ ap (λ l. value.Array l) (map_replicate (value_of place) n v)

  -- the form of a type is worth its zero
  pub form_zero : (t : Ty) → value_of place (form_of t) ≡ zero_of t
  form_zero (ty.One e) = elem_zero e
  form_zero (ty.Array e n) = array_zero n (form_of_elem e) ∙ ap (λ v. value.Array (replicate n v)) (elem_zero e)
  form_zero (ty.Grid e n m) =
      array_zero m (seen.Array (replicate n (form_of_elem e)))
      ∙ ap (λ v. value.Array (replicate m v)) (array_zero n (form_of_elem e) ∙ ap (λ v. value.Array (replicate n v)) (elem_zero e))

  pub zeros_are : (prog : Prog) (s : StructId) → map (value_of place) (map form_of (field_types prog s)) ≡ zeros_of (slice_get prog.structs s.index)
  zeros_are prog s = by (slice_get prog.structs s.index)
    where
      each : (fs : List FieldDef) → map (value_of place) (map form_of (map type_in fs)) ≡ map (λ (f : FieldDef). zero_of f.ty) fs
      each [] = refl
      each (f ∷ fs) = λ i. form_zero f.ty i ∷ each fs i

      by : (o : Option StructDef) → map (value_of place) (map form_of (map type_in (fields_in o))) ≡ zeros_of o
      by None = refl
      by (Some d) = each d.fields

module _ (holds : ℕ → Bool) where
  live_elem : (t : Elem) → IsLive holds (form_of_elem t)
  live_elem elem.Bit = live_bit holds _
  live_elem elem.Int = live_int holds _
  live_elem (elem.Reference s) = live_null holds

  pub live_replicate : (n : ℕ) (v : Seen) → IsLive holds v → AllLive holds (replicate n v)
  live_replicate zero v h = live_nil holds
  live_replicate (suc n) v h = live_cons holds v (replicate n v) h (live_replicate n v h)

  -- no form names a slot
  pub form_live : (t : Ty) → IsLive holds (form_of t)
  form_live (ty.One e) = live_elem e
  form_live (ty.Array e n) = live_array holds (replicate n (form_of_elem e)) (live_replicate n (form_of_elem e) (live_elem e))
  form_live (ty.Grid e n m) =
      let row = live_array holds (replicate n (form_of_elem e)) (live_replicate n (form_of_elem e) (live_elem e)) in
      live_array holds (replicate m (seen.Array (replicate n (form_of_elem e)))) (live_replicate m (seen.Array (replicate n (form_of_elem e))) row)

  pub forms_live : (ts : List Ty) → AllLive holds (map form_of ts)
  forms_live [] = live_nil holds
  forms_live (t ∷ ts) = live_cons holds (form_of t) (map form_of ts) (form_live t) (forms_live ts)

-- ---- values of lists

pub values_are : (g : Graph) (e : Env) (heap : List Slot) (list : List Shape) → values_in g e heap list ≡ map (value_of (place_of (holds_in g e heap))) (shapes_value g e list)
values_are g e heap [] = refl
values_are g e heap (s ∷ list) = ap (λ l. value_in g e heap s ∷ l) (values_are g e heap list)

module _ {A : Type 0} (holds : BoolId → Bool) (f k : Slot → A) where
  -- the same records where those of the slots that hold are the same
  pub records_agree : (slots : List Slot) → ((n : ℕ) (slot : Slot) → slice_get slots n ≡ Some slot → holds slot.guard ≡ true → f slot ≡ k slot) → records_of holds f slots ≡ records_of holds k slots
  records_agree [] same = refl
  records_agree (s ∷ slots) same = by (holds s.guard) refl (records_agree slots (λ n. same (suc n)))
    where
      by : (b : Bool) → holds s.guard ≡ b → records_of holds f slots ≡ records_of holds k slots → (if b then f s ∷ records_of holds f slots else records_of holds f slots) ≡ (if b then k s ∷ records_of holds k slots else records_of holds k slots)
      by true h rest = λ i. same 0 s refl h i ∷ rest i
      by false h rest = rest

module _ (g : Graph) (e : Env) {old new : List Slot} (more : HeapGrows g e old new) (live : HeapLive g e old) where
  -- old records are worth the same among more slots
  pub records_grow : records_of (bool_value g e) (record_in g e new) old ≡ heap_value g e old
  records_grow = records_agree (bool_value g e) (record_in g e new) (record_in g e old) old (λ n slot at h. values_grow g e more slot.fields (live.each n slot at h))
