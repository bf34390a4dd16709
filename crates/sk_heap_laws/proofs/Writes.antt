-- A write of a field under a guard is a write of the run, where the guard holds, and nothing where it does not.
use Rattle.std.proofs.lemmas.Option.{none-some, same_Some, slice_get_within, slice_get-get_or, get_or_from_slice_get}
use Rattle.std.proofs.lemmas.List.Elements.{All-head, All-tail}
use Rattle.std.proofs.Common.{◌≡◌, ℕ, ◌==◌, ◌&&◌, Bool, true, false, true≢false, is_none, List, [], ◌∷◌, get_or, IsTrue, Option, Some, None, slice_get, slice_set, All, refl, sym, ap, subst, ◌∙◌, if◌then◌else◌}
use Rattle.sk_base.specs.declared.span.Span.{Span}
use Rattle.sk_dag.specs.declared.env.Env.{Env}
use Rattle.sk_dag.specs.declared.node.BoolId.{BoolId}
use Rattle.sk_dag.specs.declared.shape.Seen.{Seen}
use Rattle.sk_dag.specs.declared.shape.Shape.{Shape}
use Rattle.sk_dag.specs.declared.shape.Shape.TheVariants as shape
use Rattle.sk_dag.specs.declared.shape.Targets.{Targets}
use Rattle.sk_dag.specs.Graph.{Graph, Grows}
use Rattle.sk_dag.specs.Eval.{bool_value}
use Rattle.sk_dag.specs.EvalShape.{shape_value, held_slot}
use Rattle.sk_arr.specs.Held.{AllPass}
use Rattle.sk_arr.specs.Answers.{shapes_value}
use Rattle.sk_prog.specs.declared.ids.StructId.{StructId}
use Rattle.sk_prog.specs.declared.prog.Prog.{Prog}
use Rattle.sk_prog.specs.declared.value.Value.{Value}
use Rattle.sk_model.specs.Step.{State, Goes, Fails}
use Rattle.sk_model.specs.Heap.{write_field}
use Rattle.sk_heap.specs.declared.slot.Slot.{Slot}
use Rattle.sk_heap.specs.Fields.{field_in, field_value}
use Rattle.sk_heap.specs.Heaps.{is_of}
use Rattle.sk_heap.specs.Answers.{guard_of, slot_of, is_at, is_written, IsNull, IsFieldWritten, MayWrite}
use Rattle.sk_heap.proofs.Heaps.{mapped_at, of_there, field_typed, type_there, targets_of}
use Rattle.sk_heap_laws.specs.Values.{place_of, holds_in, value_in, IsLive, AllLive, ShapeLive}
use Rattle.sk_heap_laws.specs.Heaps.{record_in, heap_value, HeapLive}
use Rattle.sk_heap_laws.proofs.Grown.{mapped_from, live_grows}
use Rattle.sk_heap_laws.proofs.Fields.{value_of_slot, at_slot, at_null, at_place, slot_holds, record_is, written_grows, unwritten_null, set_heap}

-- the slot of a reference passes a test that each target passes
pub held_passes : (g : Graph) (e : Env) (test : ℕ → Bool) (targets : List (ℕ × BoolId)) (n : ℕ) → AllPass test targets → held_slot g e targets ≡ Some n → IsTrue (test n)
held_passes g e test [] n h at = absurd (none-some n at)
held_passes g e test (t ∷ targets) n h at = by (bool_value g e t.1) at (held_passes g e test targets n (record { each = All-tail (λ x. IsTrue (test x.0)) t targets h.each }))
  where
    by : (b : Bool) → (if b then Some t.0 else held_slot g e targets) ≡ Some n → (held_slot g e targets ≡ Some n → IsTrue (test n)) → IsTrue (test n)
    by true is rest = subst (λ m. IsTrue (test m)) (same_Some t.0 n is) (All-head (λ x. IsTrue (test x.0)) t targets h.each)
    by false is rest = rest is

each_from : {A : Type 0} (P : A → Type 0) (xs : List A) → ((k : ℕ) (x : A) → slice_get xs k ≡ Some x → P x) → All P xs
each_from P xs h = λ i d lt. h i (get_or xs i d) (slice_get-get_or xs i d lt)

each_at : {A : Type 0} (P : A → Type 0) (xs : List A) (k : ℕ) (x : A) → All P xs → slice_get xs k ≡ Some x → P x
each_at P xs k x h at = subst P (get_or_from_slice_get xs k x x at) (h k x (slice_get_within xs k x at))

module _ {g0 g : Graph} {prog : Prog} {s : StructId} {guard null : BoolId} {target : Targets} {field : ℕ} {value : Shape} {old new : List Slot} (may : MayWrite g0 prog old s target field value) (is_null : IsNull g target null) (is : IsFieldWritten g guard target field value old new) {h : Graph} (more : Grows g h) (e : Env) where
  -- where the reference is null, a write fails, and nothing is written
  pub write_null : bool_value h e null ≡ true → (span : Span) (v : Value) (st : State) → write_field span field v (value_in h e old (shape.Reference target)) st ≡ Fails span
  write_null holding span v st = ap (λ r. write_field span field v r st) (at_null h e old target null (is_null.value h more e) holding)

  pub null_heap : bool_value h e null ≡ true → heap_value h e new ≡ heap_value h e old
  null_heap holding = unwritten_null is more e (by (slot_of h e target) (sym (is_null.value h more e) ∙ holding))
    where
      by : (o : Option ℕ) → is_none o ≡ true → o ≡ None
      by None t = refl
      by (Some n) t = absurd (true≢false (sym t))

  -- where it is not, and the guard holds, the field is written
  pub write_goes : ShapeLive h e old (shape.Reference target) → bool_value h e guard ≡ true → bool_value h e null ≡ false → (span : Span) (st : State) → st.heap ≡ heap_value h e old → write_field span field (value_in h e old value) (value_in h e old (shape.Reference target)) st ≡ Goes tt (record st { heap = heap_value h e new })
  write_goes live holding failing span st same =
      let n = at_slot h e old target null (is_null.value h more e) failing in
      let type = type_there prog s field may.there in
      let of = held_passes h e (is_of old s) target.slots.items n.0 (targets_of may.refers) n.1 in
      let slot = of_there old s n.0 of in
      let typed = field_typed s field n.0 may.heap_stands type.1 of in
      let there : slice_get slot.0.fields field ≡ Some typed.0 = sym (ap (field_in field) slot.1) ∙ typed.1 in
      let holds = slot_holds h e old target n.0 n.1 live in
      ap (λ r. write_field span field (value_in h e old value) r st) (at_place h e old target n.0 n.1)
      ∙ ap (λ l. Goes tt (record st { heap = l })) (
      ap (λ r. slice_set st.heap (place_of (holds_in h e old) n.0) (slice_set r field (value_in h e old value))) (record_is h e old n.0 slot.0 st same slot.1 holds)
      ∙ ap (λ l. slice_set l (place_of (holds_in h e old) n.0) (slice_set (record_in h e old slot.0) field (value_in h e old value))) same
      ∙ sym (set_heap is more e n.0 slot.0 typed.0 n.1 slot.1 there holding holds))

  -- the heap stays live, where what is written is live
  pub written_live : HeapLive h e old → (bool_value h e guard ≡ true → ShapeLive h e old value) → HeapLive h e new
  written_live heap_live live = record {
    each = λ n slot' at' holding.
        let found = mapped_from guard_of old n slot'.guard (ap (λ l. slice_get l n) (sym is.guards) ∙ mapped_at guard_of new n slot' at') in
        let all = heap_live.each n found.0 found.1 (ap (bool_value h e) found.2 ∙ holding) in
        record {
          each = each_from (IsLive (holds_in h e new)) (shapes_value h e slot'.fields) (λ k v there.
              live_grows h e (written_grows is h e) v
              (by n k found.0 v found.1 all (is_written h e guard target field n k) refl (sym (is.fields h more e n k) ∙ value_of_slot h e new n k slot' at' ∙ there)));
        };
  }
    where
      by : (n k : ℕ) (slot : Slot) (v : Seen) → slice_get old n ≡ Some slot → AllLive (holds_in h e old) (shapes_value h e slot.fields) → (b : Bool) → is_written h e guard target field n k ≡ b → (if b then Some (shape_value h e value) else field_value h e old n k) ≡ Some v → IsLive (holds_in h e old) v
      by n k slot v at all true q there = subst (IsLive (holds_in h e old)) (same_Some (shape_value h e value) v there) (live (first (bool_value h e guard) (is_at (slot_of h e target) n && (k == field)) q))
        where
          first : (b c : Bool) → (b && c) ≡ true → b ≡ true
          first true c t = refl
          first false c t = t
      by n k slot v at all false q there = each_at (IsLive (holds_in h e old)) (shapes_value h e slot.fields) k v all.each (sym (value_of_slot h e old n k slot at) ∙ there)
