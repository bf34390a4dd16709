-- What it does to the records of a heap that a slot is taken once more, under a guard.
use Rattle.std.proofs.lemmas.Option.{none-some, same_Some, slice_get_within}
use Rattle.std.proofs.Common.{◌≡◌, ℕ, zero, suc, ◌+◌, ◌≤◌, ◌||◌, Bool, true, false, true≢false, List, [], ◌∷◌, ◌++◌, map, length, Some, None, slice_get, slice_set, refl, sym, ap, subst, ◌∙◌, arith, ◌⊎◌, inl, inr, ⊎_elim, if◌then◌else◌}
use Rattle.sk_dag.specs.declared.env.Env.{Env}
use Rattle.sk_dag.specs.declared.node.BoolId.{BoolId}
use Rattle.sk_dag.specs.declared.shape.Seen.TheVariants as seen
use Rattle.sk_dag.specs.declared.shape.Shape.TheVariants as shape
use Rattle.sk_dag.specs.declared.shape.Targets.{Targets}
use Rattle.sk_dag.specs.Graph.{Graph, Grows}
use Rattle.sk_dag.specs.Eval.{bool_value}
use Rattle.sk_dag.specs.EvalShape.{shape_value, held_slot}
use Rattle.sk_arr.specs.Answers.{shapes_value}
use Rattle.sk_arr.proofs.Values.{value_reference}
use Rattle.sk_prog.specs.declared.ids.StructId.{StructId}
use Rattle.sk_prog.specs.declared.prog.Prog.{Prog}
use Rattle.sk_prog.specs.declared.value.Value.TheVariants as value
use Rattle.sk_model.specs.Heap.{zeros_of}
use Rattle.sk_heap.specs.declared.slot.Slot.{Slot}
use Rattle.sk_heap.specs.Types.{form_of, field_types}
use Rattle.sk_heap.specs.Answers.{guard_of, struct_of}
use Rattle.sk_heap.specs.Retakes.{IsRetaken}
use Rattle.sk_heap.proofs.Heaps.{mapped_at}
use Rattle.sk_heap.proofs.Retakes.{set_either, set_there}
use Rattle.sk_heap_laws.specs.Values.{place_of, guard_holds, holds_in, value_of, value_in, IsLive, AllLive, ShapeLive}
use Rattle.sk_heap_laws.specs.Heaps.{records_of, record_in, heap_value, HeapLive, StructsGrow, HeapGrows, HoldAlike, AreFree}
use Rattle.sk_heap_laws.proofs.Parts.{of_slot, live_slot, live_null}
use Rattle.sk_heap_laws.proofs.Values.{split, place_agrees}
use Rattle.sk_heap_laws.proofs.Grown.{holds_at, alike_grows, all_live_grows}
use Rattle.sk_heap_laws.proofs.Records.{place_length}
use Rattle.sk_heap_laws.proofs.Heaps.{zeros_are, forms_live, values_are, records_grow}
use Rattle.sk_heap_laws.proofs.Fields.{get_set_other, map_set}

-- ---- records of slots of which one is replaced

module _ {A : Type 0} (holds : BoolId → Bool) (f : Slot → A) where
  abbrev R : List Slot → List A
  R slots = records_of holds f slots

  -- there are none of slots that do not hold
  none_hold : (slots : List Slot) → ((k : ℕ) (s : Slot) → slice_get slots k ≡ Some s → holds s.guard ≡ false) → R slots ≡ []
  none_hold [] free = refl
  none_hold (s ∷ slots) free = ap (λ b. if b then f s ∷ R slots else R slots) (free 0 s refl) ∙ none_hold slots (λ k. free (suc k))

  -- one that holds comes behind the others, where no old one holds from its place on
  pub records_last : (slots : List Slot) (n : ℕ) (was slot : Slot) → slice_get slots n ≡ Some was → ((k : ℕ) (s : Slot) → slice_get slots k ≡ Some s → n ≤ k → holds s.guard ≡ false) → holds slot.guard ≡ true → R (slice_set slots n slot) ≡ R slots ++ f slot ∷ []
  records_last [] n was slot at free on = absurd (none-some was at)
  records_last (s ∷ slots) zero was slot at free on =
      let rest : R slots ≡ [] = none_hold slots (λ k x is. free (suc k) x is (omega arith)) in
      let all : R (s ∷ slots) ≡ [] = none_hold (s ∷ slots) (λ k x is. free k x is (omega arith)) in
      ap (λ b. if b then f slot ∷ R slots else R slots) on ∙ ap (λ l. f slot ∷ l) rest ∙ sym (ap (λ l. l ++ f slot ∷ []) all)
  records_last (s ∷ slots) (suc n) was slot at free on =
      ap (λ l. if holds s.guard then f s ∷ l else l) (records_last slots n was slot at (λ k x is le. free (suc k) x is (omega (arith, le))) on) ∙ by (holds s.guard)
    where
      by : (b : Bool) → (if b then f s ∷ (R slots ++ f slot ∷ []) else (R slots ++ f slot ∷ [])) ≡ (if b then f s ∷ R slots else R slots) ++ f slot ∷ []
      by true = refl
      by false = refl

  -- one that holds where the old one did, with the same record
  pub records_kept : (slots : List Slot) (n : ℕ) (was slot : Slot) → slice_get slots n ≡ Some was → holds slot.guard ≡ holds was.guard → (holds was.guard ≡ true → f slot ≡ f was) → R (slice_set slots n slot) ≡ R slots
  records_kept [] n was slot at same is = refl
  records_kept (s ∷ slots) zero was slot at same is =
      let here : s ≡ was = same_Some s was at in
      ap (λ b. if b then f slot ∷ R slots else R slots) same ∙ by (holds was.guard) refl ∙ sym (ap (λ x. if holds x.guard then f x ∷ R slots else R slots) here)
    where
      by : (b : Bool) → holds was.guard ≡ b → (if b then f slot ∷ R slots else R slots) ≡ (if b then f was ∷ R slots else R slots)
      by true h = ap (λ x. x ∷ R slots) (is h)
      by false h = refl
  records_kept (s ∷ slots) (suc n) was slot at same is = ap (λ l. if holds s.guard then f s ∷ l else l) (records_kept slots n was slot at same is)

-- places behind which none holds are the same
place_flat : (holds : ℕ → Bool) (n k : ℕ) → n ≤ k → ((j : ℕ) → n ≤ j → holds j ≡ false) → place_of holds k ≡ place_of holds n
place_flat holds n zero le free = let same : zero ≡ n = omega (arith, le) in ap (place_of holds) same
place_flat holds n (suc k) le free = ⊎_elim
    (λ less. ap (λ b. if b then suc (place_of holds k) else place_of holds k) (free k (omega (arith, less))) ∙ place_flat holds n k (omega (arith, less)) free)
    (λ up. let same : suc k ≡ n = omega (arith, le, up) in ap (place_of holds) same)
    (split n (suc k))

module _ {g : Graph} {prog : Prog} {guard : BoolId} {s : StructId} {place : ℕ} {old new : List Slot} {r : Targets} (is : IsRetaken g prog guard s place old new r) where
  pub retaken_kinds : map struct_of new ≡ map struct_of old
  retaken_kinds = ap (map struct_of) is.put ∙ map_set struct_of old place is.slot ∙ same (map struct_of old) place (struct_of is.slot) (mapped_at struct_of old place is.was is.found ∙ ap (λ t. Some t) (is.was_struct ∙ sym is.of_struct))
    where
      same : {A : Type 0} (xs : List A) (i : ℕ) (x : A) → slice_get xs i ≡ Some x → slice_set xs i x ≡ xs
      same [] i x h = refl
      same (y ∷ ys) zero x h = ap (λ z. z ∷ ys) (sym (same_Some y x h))
      same (y ∷ ys) (suc i) x h = ap (λ l. y ∷ l) (same ys i x h)

  pub retaken_structs : StructsGrow old new
  retaken_structs = record { structs = λ n t h. ap (λ l. slice_get l n) retaken_kinds ∙ h }

  there : slice_get new place ≡ Some is.slot
  there = ap (λ l. slice_get l place) is.put ∙ set_there old place is.was is.slot is.found

  module _ {h : Graph} (more : Grows g h) (e : Env) where
    -- the other slots hold where they held
    holds_other : (n : ℕ) → (n ≡ place → ⊥) → holds_in h e new n ≡ holds_in h e old n
    holds_other n other =
        ap (λ l. guard_holds h e (slice_get (map guard_of l) n)) is.put
        ∙ ap (λ l. guard_holds h e (slice_get l n)) (map_set guard_of old place is.slot)
        ∙ ap (guard_holds h e) (get_set_other (map guard_of old) place n (guard_of is.slot) other)

    was_holds : holds_in h e old place ≡ bool_value h e (guard_of is.was)
    was_holds = holds_at h e old place is.was is.found

    now_holds : holds_in h e new place ≡ (bool_value h e (guard_of is.was) || bool_value h e guard)
    now_holds = holds_at h e new place is.slot there ∙ is.guarded h more e

    or_off : (a b : Bool) → b ≡ false → (a || b) ≡ a
    or_off true b off = refl
    or_off false b off = off

    or_on : (a b : Bool) → b ≡ true → (a || b) ≡ true
    or_on true b on = refl
    or_on false b on = on

    equal_or : (n k : ℕ) → (n ≡ k) ⊎ (n ≡ k → ⊥)
    equal_or n k = ⊎_elim
        (λ less. inr (λ same. omega (arith, less, same)))
        (λ up. ⊎_elim (λ more. inr (λ same. omega (arith, more, same))) (λ down. inl (omega (arith, up, down))) (split k n))
        (split n k)

    -- where the guard does not hold the same slots hold
    pub unretaken_alike : bool_value h e guard ≡ false → HoldAlike h e old new
    unretaken_alike off = record {
      each = λ n. ⊎_elim
          (λ here. ap (holds_in h e new) here ∙ now_holds ∙ or_off _ _ off ∙ sym was_holds ∙ sym (ap (holds_in h e old) here))
          (λ other. holds_other n other)
          (equal_or n place);
    }

    -- where none holds from the place on the heap grows, and none does behind it then
    module _ (free : AreFree h e old place) where
      pub retaken_grows : HeapGrows h e old new
      retaken_grows = record { same = λ n held k le. holds_other k (λ here. true≢false (sym held ∙ free.each n (omega (arith, le, here)))) }

      -- the record in which nothing is set comes behind the others
      pub retaken_heap : HeapLive h e old → bool_value h e guard ≡ true → heap_value h e new ≡ heap_value h e old ++ zeros_of (slice_get prog.structs s.index) ∷ []
      retaken_heap live on =
          ap (records_of (bool_value h e) (record_in h e new)) is.put
          ∙ records_last (bool_value h e) (record_in h e new) old place is.was is.slot is.found
          (λ k x at le. sym (holds_at h e old k x at) ∙ free.each k le)
          (is.guarded h more e ∙ or_on _ _ on)
          ∙ (λ i. records_grow h e retaken_grows live i ++ zeros i ∷ [])
        where
          zeros : record_in h e new is.slot ≡ zeros_of (slice_get prog.structs s.index)
          zeros =
              values_are h e new is.slot.fields
              ∙ ap (map (value_of (place_of (holds_in h e new)))) (is.fields h more e ∙ ap (λ b. if b then map form_of (field_types prog s) else shapes_value h e is.was.fields) on)
              ∙ zeros_are (place_of (holds_in h e new)) prog s

      -- the place of the slot is that of the next record
      next_place : place_of (holds_in h e old) place ≡ length (heap_value h e old)
      next_place =
          let within : place ≤ length old = omega (arith, slice_get_within old place is.was is.found) in
          sym (place_flat (holds_in h e old) place (length old) within free.each) ∙ place_length h e (record_in h e old) old

    target_seen : (b : Bool) → bool_value h e guard ≡ b → shape_value h e (shape.Reference r) ≡ seen.Slot (if b then Some place else None)
    target_seen b holds = value_reference h e r ∙ ap (λ ts. seen.Slot (held_slot h e ts)) is.target ∙ ap (λ c. seen.Slot (if c then Some place else None)) holds

    -- the reference is worth the place of the new record
    pub retaken_value : AreFree h e old place → bool_value h e guard ≡ true → value_in h e new (shape.Reference r) ≡ value.Place (length (heap_value h e old))
    retaken_value free on =
        ap (value_of (place_of (holds_in h e new))) (target_seen true on)
        ∙ of_slot (place_of (holds_in h e new)) place
        ∙ ap (λ n. value.Place n) (place_agrees (holds_in h e new) (holds_in h e old) place (λ k lt. holds_other k (λ here. omega (arith, lt, here))) ∙ next_place free)

    pub retaken_live : ShapeLive h e new (shape.Reference r)
    retaken_live = by (bool_value h e guard) refl
      where
        by : (b : Bool) → bool_value h e guard ≡ b → ShapeLive h e new (shape.Reference r)
        by true on = subst (IsLive (holds_in h e new)) (sym (target_seen true on)) (live_slot (holds_in h e new) place (now_holds ∙ or_on _ _ on))
        by false off = subst (IsLive (holds_in h e new)) (sym (target_seen false off)) (live_null (holds_in h e new))

    -- none holds behind it where none did from it on
    pub retaken_free : {from : ℕ} → from ≤ place → AreFree h e old from → AreFree h e new (place + 1)
    retaken_free up free = record { each = λ n le. holds_other n (λ here. omega (arith, le, here)) ∙ free.each n (omega (arith, up, le)) }

    -- where the guard does not hold the records are those of before
    pub unretaken_heap : HeapLive h e old → bool_value h e guard ≡ false → heap_value h e new ≡ heap_value h e old
    unretaken_heap live off =
        ap (records_of (bool_value h e) (record_in h e new)) is.put
        ∙ records_kept (bool_value h e) (record_in h e new) old place is.was is.slot is.found
        (is.guarded h more e ∙ or_off _ _ off)
        (λ on. values_are h e new is.slot.fields ∙ ap (map (value_of (place_of (holds_in h e new)))) (is.fields h more e ∙ ap (λ b. if b then map form_of (field_types prog s) else shapes_value h e is.was.fields) off) ∙ sym (values_are h e new is.was.fields))
        ∙ records_grow h e (alike_grows h e (unretaken_alike off)) live

    -- and the heap stays live
    heap_live : (b : Bool) → bool_value h e guard ≡ b → HeapGrows h e old new → HeapLive h e old → HeapLive h e new
    heap_live b guarded grows live = record {
      each = λ n x at holds. ⊎_elim
          (λ kept. all_live_grows h e grows (shapes_value h e x.fields) (live.each n x kept holds))
          (λ here. subst (λ y. AllLive (holds_in h e new) (shapes_value h e y.fields)) here.1 (subst (AllLive (holds_in h e new)) (sym (is.fields h more e)) (by b guarded (ap (λ y. bool_value h e (guard_of y)) here.1 ∙ holds))))
          (set_either old place is.slot n x (ap (λ l. slice_get l n) (sym is.put) ∙ at));
    }
      where
        by : (c : Bool) → bool_value h e guard ≡ c → bool_value h e (guard_of is.slot) ≡ true → AllLive (holds_in h e new) (if bool_value h e guard then map form_of (field_types prog s) else shapes_value h e is.was.fields)
        by true on holds = subst (λ c. AllLive (holds_in h e new) (if c then map form_of (field_types prog s) else shapes_value h e is.was.fields)) (sym on) (forms_live (holds_in h e new) (field_types prog s))
        by false off holds = subst (λ c. AllLive (holds_in h e new) (if c then map form_of (field_types prog s) else shapes_value h e is.was.fields)) (sym off)
            (all_live_grows h e grows (shapes_value h e is.was.fields) (live.each place is.was is.found (sym (or_off _ _ off) ∙ sym (is.guarded h more e) ∙ holds)))

    pub retaken_heap_live : AreFree h e old place → HeapLive h e old → HeapLive h e new
    retaken_heap_live free = heap_live (bool_value h e guard) refl (retaken_grows free)

    pub unretaken_heap_live : bool_value h e guard ≡ false → HeapLive h e old → HeapLive h e new
    unretaken_heap_live off = heap_live false off (alike_grows h e (unretaken_alike off))
