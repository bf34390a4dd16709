-- What an allocation under a guard does to the records of a heap.
use Rattle.std.proofs.lemmas.Option.{none-some, same_Some}
use Rattle.std.proofs.Common.{◌≡◌, ℕ, zero, suc, ◌<◌, ◌≤◌, Bool, true, false, List, [], ◌∷◌, ◌++◌, map, length, Some, None, slice_get, refl, sym, ap, subst, ◌∙◌, arith, ◌⊎◌, inl, inr, ⊎_elim, if◌then◌else◌}
use Rattle.sk_dag.specs.declared.env.Env.{Env}
use Rattle.sk_dag.specs.declared.node.BoolId.{BoolId}
use Rattle.sk_dag.specs.declared.shape.Seen.TheVariants as seen
use Rattle.sk_dag.specs.declared.shape.Shape.TheVariants as shape
use Rattle.sk_dag.specs.declared.shape.Targets.{Targets}
use Rattle.sk_dag.specs.Graph.{Graph, Grows}
use Rattle.sk_dag.specs.Eval.{bool_value}
use Rattle.sk_dag.specs.EvalShape.{shape_value, held_slot}
use Rattle.sk_arr.specs.Answers.{shapes_value}
use Rattle.sk_arr.proofs.Values.{value_reference}
use Rattle.sk_prog.specs.declared.ids.StructId.{StructId}
use Rattle.sk_prog.specs.declared.prog.Prog.{Prog}
use Rattle.sk_prog.specs.declared.value.Value.TheVariants as value
use Rattle.sk_model.specs.Heap.{zeros_of}
use Rattle.sk_heap.specs.declared.slot.Slot.{Slot}
use Rattle.sk_heap.specs.Types.{field_types}
use Rattle.sk_heap.specs.Answers.{IsAllocated}
use Rattle.sk_heap.proofs.Heaps.{get_last}
use Rattle.sk_heap_laws.specs.Values.{place_of, holds_in, value_of, value_in, IsLive, AllLive, ShapeLive}
use Rattle.sk_heap_laws.specs.Heaps.{record_in, heap_value, HeapLive, StructsGrow, HeapGrows, HoldAlike}
use Rattle.sk_heap_laws.proofs.Parts.{of_slot, live_slot, live_null}
use Rattle.sk_heap_laws.proofs.Values.{split, place_agrees}
use Rattle.sk_heap_laws.proofs.Grown.{StructsGrow-push, HeapGrows-push, pushed_same, holds_at, holds_past, all_live_grows}
use Rattle.sk_heap_laws.proofs.Records.{records_push, place_length}
use Rattle.sk_heap_laws.proofs.Heaps.{zeros_are, forms_live, values_are, records_grow}

front_or_last : {A : Type 0} (xs : List A) (x y : A) (n : ℕ) → slice_get (xs ++ x ∷ []) n ≡ Some y → (slice_get xs n ≡ Some y) ⊎ (x ≡ y)
front_or_last [] x y zero h = inr (same_Some x y h)
front_or_last [] x y (suc n) h = absurd (none-some y h)
front_or_last (z ∷ zs) x y zero h = inl h
front_or_last (z ∷ zs) x y (suc n) h = front_or_last zs x y n h

no_more : {A : Type 0} (xs : List A) → xs ++ [] ≡ xs
no_more [] = refl
no_more (x ∷ xs) = ap (λ l. x ∷ l) (no_more xs)

module _ {g : Graph} {prog : Prog} {guard : BoolId} {s : StructId} {old new : List Slot} {r : Targets} (is : IsAllocated g prog guard s old new r) where
  abbrev longer : List Slot
  longer = old ++ is.slot ∷ []

  pub allocated_structs : StructsGrow old new
  allocated_structs = subst (StructsGrow old) (sym is.pushed) (StructsGrow-push old is.slot)

  pub allocated_grows : (h : Graph) (e : Env) → HeapGrows h e old new
  allocated_grows h e = subst (HeapGrows h e old) (sym is.pushed) (HeapGrows-push h e old is.slot)

  long : length new ≡ suc (length old)
  long = ap length is.pushed ∙ one_more old
    where
      one_more : (xs : List Slot) → length (xs ++ is.slot ∷ []) ≡ suc (length xs)
      one_more [] = refl
      one_more (x ∷ xs) = ap suc (one_more xs)

  -- where the guard does not hold the same slots hold
  pub unallocated_alike : {h : Graph} → Grows g h → (e : Env) → bool_value h e guard ≡ false → HoldAlike h e old new
  unallocated_alike {h} more e off = record { each = λ n. by n (split n (length old)) }
    where
      last : holds_in h e new (length old) ≡ false
      last = ap (λ l. holds_in h e l (length old)) is.pushed ∙ holds_at h e longer (length old) is.slot (get_last old is.slot) ∙ ap (bool_value h e) is.guarded ∙ off

      none : (n : ℕ) → length old ≤ n → (n < suc (length old)) ⊎ (suc (length old) ≤ n) → holds_in h e new n ≡ false
      none n le (inl here) = let same : length old ≡ n = omega (arith, le, here) in subst (λ k. holds_in h e new k ≡ false) same last
      none n le (inr past) = holds_past h e new n (omega (arith, past, long))

      by : (n : ℕ) → (n < length old) ⊎ (length old ≤ n) → holds_in h e new n ≡ holds_in h e old n
      by n (inl lt) = ap (λ l. holds_in h e l n) is.pushed ∙ pushed_same h e old is.slot n lt
      by n (inr le) = none n le (split n (suc (length old))) ∙ sym (holds_past h e old n le)

  module _ {h : Graph} (more : Grows g h) (e : Env) where
    guarded : (b : Bool) → bool_value h e guard ≡ b → bool_value h e is.slot.guard ≡ b
    guarded b holds = ap (bool_value h e) is.guarded ∙ holds

    pushed : HeapLive h e old → (b : Bool) → bool_value h e guard ≡ b → heap_value h e longer ≡ heap_value h e old ++ (if b then record_in h e longer is.slot ∷ [] else [])
    pushed live b holds =
        records_push (bool_value h e) (record_in h e longer) old is.slot
        ∙ ap (λ l. l ++ (if bool_value h e is.slot.guard then record_in h e longer is.slot ∷ [] else [])) (records_grow h e (HeapGrows-push h e old is.slot) live)
        ∙ ap (λ c. heap_value h e old ++ (if c then record_in h e longer is.slot ∷ [] else [])) (guarded b holds)

    -- the record in which nothing is set comes behind the others
    pub allocated_heap : HeapLive h e old → bool_value h e guard ≡ true → heap_value h e new ≡ heap_value h e old ++ zeros_of (slice_get prog.structs s.index) ∷ []
    allocated_heap live holds =
        ap (heap_value h e) is.pushed ∙ pushed live true holds
        ∙ ap (λ l. heap_value h e old ++ l ∷ []) (
        values_are h e longer is.slot.fields
        ∙ ap (map (value_of (place_of (holds_in h e longer)))) (is.zeros h more e)
        ∙ zeros_are (place_of (holds_in h e longer)) prog s)

    -- where the guard does not hold there is no new record
    pub unallocated_heap : HeapLive h e old → bool_value h e guard ≡ false → heap_value h e new ≡ heap_value h e old
    unallocated_heap live holds = ap (heap_value h e) is.pushed ∙ pushed live false holds ∙ no_more (heap_value h e old)

    target_seen : (b : Bool) → bool_value h e guard ≡ b → shape_value h e (shape.Reference r) ≡ seen.Slot (if b then Some (length old) else None)
    target_seen b holds = value_reference h e r ∙ ap (λ ts. seen.Slot (held_slot h e ts)) is.target ∙ ap (λ c. seen.Slot (if c then Some (length old) else None)) holds

    -- the reference is worth the place of the new record
    pub allocated_value : bool_value h e guard ≡ true → value_in h e new (shape.Reference r) ≡ value.Place (length (heap_value h e old))
    allocated_value holds =
        ap (value_of (place_of (holds_in h e new))) (target_seen true holds)
        ∙ of_slot (place_of (holds_in h e new)) (length old)
        ∙ ap (λ n. value.Place n) (place_agrees (holds_in h e new) (holds_in h e old) (length old) (λ k lt. ap (λ l. holds_in h e l k) is.pushed ∙ pushed_same h e old is.slot k lt) ∙ place_length h e (record_in h e old) old)

    pub allocated_live : ShapeLive h e new (shape.Reference r)
    allocated_live = by (bool_value h e guard) refl
      where
        last : (b : Bool) → bool_value h e guard ≡ b → holds_in h e new (length old) ≡ b
        last b holds = ap (λ l. holds_in h e l (length old)) is.pushed ∙ holds_at h e longer (length old) is.slot (get_last old is.slot) ∙ guarded b holds

        by : (b : Bool) → bool_value h e guard ≡ b → ShapeLive h e new (shape.Reference r)
        by true holds = subst (IsLive (holds_in h e new)) (sym (target_seen true holds)) (live_slot (holds_in h e new) (length old) (last true holds))
        by false holds = subst (IsLive (holds_in h e new)) (sym (target_seen false holds)) (live_null (holds_in h e new))

    -- and the heap stays live
    pub allocated_heap_live : HeapLive h e old → HeapLive h e new
    allocated_heap_live live = subst (HeapLive h e) (sym is.pushed) record {
      each = λ n slot at holds. ⊎_elim
          (λ front. all_live_grows h e (HeapGrows-push h e old is.slot) (shapes_value h e slot.fields) (live.each n slot front holds))
          (λ last. subst (λ x. AllLive (holds_in h e longer) (shapes_value h e x.fields)) last
          (subst (AllLive (holds_in h e longer)) (sym (is.zeros h more e)) (forms_live (holds_in h e longer) (field_types prog s))))
          (front_or_last old is.slot slot n at);
    }
