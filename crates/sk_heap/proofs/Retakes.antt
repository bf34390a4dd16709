-- Slots that are taken once more.
use Rattle.std.proofs.lemmas.Option.{none-some, same_Some, slice_get_within, slice_get-get_or, slice_get_read}
use Rattle.std.proofs.lemmas.List.Elements.{All-nil, All-cons}
use Rattle.std.proofs.Common.{◌≡◌, ℕ, zero, suc, ◌+◌, ◌<◌, ◌≤◌, Bool, true, false, ◌||◌, List, [], ◌∷◌, ◌++◌, length, map, slice_get, slice_set, get_or, Some, IsTrue, refl, sym, ap, subst, ◌∙◌, arith, ◌⊎◌, inl, inr, ⊎_elim, if◌then◌else◌}
use Rattle.sk_dag.specs.declared.env.Env.{Env}
use Rattle.sk_dag.specs.declared.node.BoolId.{BoolId}
use Rattle.sk_dag.specs.declared.shape.Seen.{Seen}
use Rattle.sk_dag.specs.declared.shape.Shape.{Shape}
use Rattle.sk_dag.specs.declared.shape.Targets.{Targets}
use Rattle.sk_dag.specs.Graph.{Graph, Grows, HasBool, BoolSort}
use Rattle.sk_dag.specs.Eval.{bool_value, Keeps}
use Rattle.sk_dag.specs.EvalShape.{shape_value}
use Rattle.sk_dag.proofs.EvalLemmas.{Keeps-trans}
use Rattle.sk_arr.specs.Held.{held_in, AllIn, AllPass}
use Rattle.sk_arr.specs.Shapes.{blank, AllStand}
use Rattle.sk_arr.specs.Answers.{shapes_value, IsChoice}
use Rattle.sk_arr.proofs.Standing.{Stands-keeps, AllStand-keeps, reference_stands}
use Rattle.sk_arr.proofs.Values.{reference_passes}
use Rattle.sk_prog.specs.declared.ids.StructId.{StructId}
use Rattle.sk_prog.specs.declared.ty.Ty.{Ty}
use Rattle.sk_prog.specs.declared.prog.FieldDef.{FieldDef}
use Rattle.sk_prog.specs.declared.prog.Prog.{Prog}
use Rattle.sk_heap.specs.declared.slot.Slot.{Slot}
use Rattle.sk_heap.specs.Types.{form_of, elem_of, type_in, field_form, fields_of, field_types}
use Rattle.sk_heap.specs.Zeros.{AreZeros}
use Rattle.sk_heap.specs.Heaps.{is_of, may_name, IsOfType, SlotStands, HeapStands, RefersTo}
use Rattle.sk_heap.specs.Retakes.{IsChosenAt, AreChosen, IsRefilledAt, IsRetaken}
use Rattle.sk_heap.proofs.Heaps.{StaysOf, IsOfType-more, SlotStands-more, of_there, there_of, slot_stands}
use Rattle.sk_heap.proofs.Allocs.{slot_of_zeros, forms}

-- ---- lists with one element replaced

module _ {A : Type 0} where
  -- an element of the new list is one of the old one, or the new one
  pub set_either : (xs : List A) (i : ℕ) (y : A) (n : ℕ) (x : A) → slice_get (slice_set xs i y) n ≡ Some x → (slice_get xs n ≡ Some x) ⊎ ((n ≡ i) × (y ≡ x))
  set_either [] i y n x h = inl h
  set_either (z ∷ zs) zero y zero x h = inr (refl, same_Some y x h)
  set_either (z ∷ zs) zero y (suc n) x h = inl h
  set_either (z ∷ zs) (suc i) y zero x h = inl h
  set_either (z ∷ zs) (suc i) y (suc n) x h = ⊎_elim (λ old. inl old) (λ new. inr (ap suc new.0, new.1)) (set_either zs i y n x h)

  -- an element of the old list is one of the new one, or the one that was replaced
  pub set_kept : (xs : List A) (i : ℕ) (y : A) (n : ℕ) (x : A) → slice_get xs n ≡ Some x → (slice_get (slice_set xs i y) n ≡ Some x) ⊎ ((n ≡ i) × (slice_get (slice_set xs i y) n ≡ Some y))
  set_kept [] i y n x h = inl h
  set_kept (z ∷ zs) zero y zero x h = inr (refl, refl)
  set_kept (z ∷ zs) zero y (suc n) x h = inl h
  set_kept (z ∷ zs) (suc i) y zero x h = inl h
  set_kept (z ∷ zs) (suc i) y (suc n) x h = ⊎_elim (λ old. inl old) (λ new. inr (ap suc new.0, new.1)) (set_kept zs i y n x h)

  pub set_there : (xs : List A) (i : ℕ) (x y : A) → slice_get xs i ≡ Some x → slice_get (slice_set xs i y) i ≡ Some y
  set_there [] i x y h = absurd (none-some x h)
  set_there (z ∷ zs) zero x y h = refl
  set_there (z ∷ zs) (suc i) x y h = set_there zs i x y h

  push_either : (xs : List A) (x y : A) (n : ℕ) → slice_get (xs ++ x ∷ []) n ≡ Some y → (slice_get xs n ≡ Some y) ⊎ ((n ≡ length xs) × (x ≡ y))
  push_either [] x y zero h = inr (refl, same_Some x y h)
  push_either [] x y (suc n) h = absurd (none-some y h)
  push_either (z ∷ zs) x y zero h = inl h
  push_either (z ∷ zs) x y (suc n) h = ⊎_elim (λ old. inl old) (λ new. inr (ap suc new.0, new.1)) (push_either zs x y n h)

  length_pushed : (xs : List A) (x : A) → length (xs ++ x ∷ []) ≡ suc (length xs)
  length_pushed [] x = refl
  length_pushed (z ∷ zs) x = ap suc (length_pushed zs x)

  -- lists that have the same at each place are mapped to the same
  pub map_alike : {B : Type 0} (f : A → B) (xs ys : List A) → length xs ≡ length ys → ((i : ℕ) (x y : A) → slice_get xs i ≡ Some x → slice_get ys i ≡ Some y → f x ≡ f y) → map f xs ≡ map f ys
  map_alike f [] [] l h = refl
  map_alike f [] (y ∷ ys) l h = absurd (omega (arith, l))
  map_alike f (x ∷ xs) [] l h = absurd (omega (arith, l))
  map_alike f (x ∷ xs) (y ∷ ys) l h = λ i. h 0 x y refl refl i ∷ map_alike f xs ys (omega (arith, l)) (λ n. h (suc n)) i

-- as many slots as before
pub set_long : (xs : List Slot) (i : ℕ) (y : Slot) → length (slice_set xs i y) ≡ length xs
set_long [] i y = refl
set_long (x ∷ xs) zero y = refl
set_long (x ∷ xs) (suc i) y = ap suc (set_long xs i y)

pub ruleset keeping = (Keeps-trans)

-- ---- shapes that are chosen

chosen_later : {a b : Graph} {c : BoolId} {list others : List Shape} {i : ℕ} {r : Shape} → Keeps a b → IsChosenAt a c list others i r → IsChosenAt b c list others i r
chosen_later k h = record {
  first = h.first;
  second = h.second;
  at_first = h.at_first;
  at_second = h.at_second;
  choice = record {
    stands = Stands-keeps k h.choice.stands;
    alike = h.choice.alike;
    named = h.choice.named;
    value = λ g more e. h.choice.value g (k.later g more) e;
  };
}

-- those so far are chosen
pub record ChosenSoFar (g : Graph) (c : BoolId) (list others made : List Shape) (count : ℕ) : Type 0 where
  pub long : length made ≡ count
  pub each : (i : ℕ) (r : Shape) → slice_get made i ≡ Some r → IsChosenAt g c list others i r

pub chosen_none : (g : Graph) (c : BoolId) (list others : List Shape) → ChosenSoFar g c list others [] 0
chosen_none g c list others = record { long = refl; each = λ i r at. absurd (none-some r at) }

pub chosen_more : {a b : Graph} {c : BoolId} (list others made : List Shape) (i : ℕ) (x y r : Shape) → i < length list → i < length others → x ≡ get_or list i x → y ≡ get_or others i y → ChosenSoFar a c list others made i → Keeps a b → IsChoice b c x y r → ChosenSoFar b c list others (made ++ r ∷ []) (i + 1)
chosen_more {a} {b} {c} list others made i x y r l m p q so k is = record {
  long = omega (arith, length_pushed made r, so.long);
  each = λ n z at. ⊎_elim
      (λ old. chosen_later k (so.each n z old))
      (λ new. last n z (new.0 ∙ so.long) new.1)
      (push_either made r z n at);
}
  where
    last : (n : ℕ) (z : Shape) → n ≡ i → r ≡ z → IsChosenAt b c list others n z
    last n z here same = subst (λ k. IsChosenAt b c list others k z) (sym here) (subst (λ s. IsChosenAt b c list others i s) same record {
      first = x;
      second = y;
      at_first = slice_get_read list (length list) i x refl l p;
      at_second = slice_get_read others (length others) i y refl m q;
      choice = is;
    })

pub chosen_done : {g : Graph} {c : BoolId} {list others made : List Shape} {count : ℕ} → length list ≤ count → count ≤ length list → ChosenSoFar g c list others made count → AreChosen g c list others made
chosen_done low high so = record { long = omega (arith, so.long, low, high); each = so.each }

module _ {g : Graph} {c : BoolId} {list others made : List Shape} (are : AreChosen g c list others made) where
  pub chosen_stand : AllStand g made
  chosen_stand = record { each = λ i d lt. (are.each i (get_or made i d) (slice_get-get_or made i d lt)).choice.stands }

  -- in an environment they are the first or the others
  pub chosen_value : length list ≡ length others → (h : Graph) → Grows g h → (e : Env) → shapes_value h e made ≡ (if bool_value h e c then shapes_value h e list else shapes_value h e others)
  chosen_value same h more e = by (bool_value h e c) refl
    where
      value_at : (b : Bool) → bool_value h e c ≡ b → (i : ℕ) (x : Shape) (at : slice_get made i ≡ Some x) → shape_value h e x ≡ (if b then shape_value h e (are.each i x at).first else shape_value h e (are.each i x at).second)
      value_at b is i x at = let one = are.each i x at in one.choice.value h more e ∙ ap (λ o. if o then shape_value h e one.first else shape_value h e one.second) is

      by : (b : Bool) → bool_value h e c ≡ b → shapes_value h e made ≡ (if b then shapes_value h e list else shapes_value h e others)
      by true is = map_alike (shape_value h e) made list are.long (λ i x y at at'. value_at true is i x at ∙ ap (shape_value h e) (same_Some (are.each i x at).first y (sym (are.each i x at).at_first ∙ at')))
      by false is = map_alike (shape_value h e) made others (are.long ∙ same) (λ i x y at at'. value_at false is i x at ∙ ap (shape_value h e) (same_Some (are.each i x at).second y (sym (are.each i x at).at_second ∙ at')))

-- ---- the slot that is there

-- the fields of a slot have the forms of their types
pub fields_formed : {g : Graph} {prog : Prog} {heap : List Slot} {slot : Slot} → SlotStands g prog heap slot → map blank slot.fields ≡ map field_form (fields_of prog slot.of)
fields_formed {g} {prog} {heap} {slot} h = by slot.fields (fields_of prog slot.of) h.whole (λ i r t at is. ((h.typed i r at).typed t is).form)
  where
    by : (rs : List Shape) (defs : List FieldDef) → length rs ≡ length (map type_in defs) → ((i : ℕ) (r : Shape) (t : Ty) → slice_get rs i ≡ Some r → slice_get (map type_in defs) i ≡ Some t → blank r ≡ form_of t) → map blank rs ≡ map field_form defs
    by [] [] l same = refl
    by [] (d ∷ ds) l same = absurd (omega (arith, l))
    by (r ∷ rs) [] l same = absurd (omega (arith, l))
    by (r ∷ rs) (d ∷ ds) l same = λ i. same 0 r d.ty refl refl i ∷ by rs ds (omega (arith, l)) (λ n. same (suc n)) i

-- what stands in the heap of the slot that is to be taken
pub record SlotIs (g : Graph) (prog : Prog) (s : StructId) (heap : List Slot) (was : Slot) : Type 0 where
  pub of_struct : was.of ≡ s
  pub stands : SlotStands g prog heap was
  pub formed : map blank was.fields ≡ map field_form (fields_of prog s)

pub slot_is : {g : Graph} {prog : Prog} {s : StructId} {heap : List Slot} {was : Slot} (place : ℕ) → HeapStands g prog heap → IsTrue (is_of heap s place) → slice_get heap place ≡ Some was → SlotIs g prog s heap was
slot_is {g} {prog} {s} {heap} {was} place h of at =
    let found = of_there heap s place of in
    let same : found.0 ≡ was = same_Some found.0 was (sym found.1 ∙ at) in
    let of_struct : was.of ≡ s = ap (λ (x : Slot). x.of) (sym same) ∙ found.2 in
    let stands = h.each place was at in
    record { of_struct = of_struct; stands = stands; formed = fields_formed stands ∙ ap (λ t. map field_form (fields_of prog t)) of_struct }

pub within_of : (heap : List Slot) (s : StructId) (place : ℕ) → IsTrue (is_of heap s place) → place < length heap
within_of heap s place of = let found = of_there heap s place of in slice_get_within heap place found.0 found.1

-- ---- the heap with the slot in its place

module _ {g0 g : Graph} {prog : Prog} {guard : BoolId} {s : StructId} {place : ℕ} {old new : List Slot} {slot : Slot} (stands : HeapStands g0 prog old) (of : IsTrue (is_of old s place)) (keeps : Keeps g0 g) (is : IsRefilledAt g prog guard s place old slot) (put : new ≡ slice_set old place slot) where
  was_is : SlotIs g0 prog s old is.was
  was_is = slot_is place stands of is.found

  there : slice_get new place ≡ Some slot
  there = ap (λ l. slice_get l place) put ∙ set_there old place is.was slot is.found

  pub retaken_stays : StaysOf old new
  retaken_stays t n h =
      let found = of_there old t n h in
      ⊎_elim
      (λ kept. there_of new t n found.0 (ap (λ l. slice_get l n) put ∙ kept) found.2)
      (λ here. there_of new t n slot (ap (λ l. slice_get l n) put ∙ here.1) (
      is.refilled.of_struct ∙ sym was_is.of_struct
      ∙ ap (λ (x : Slot). x.of) (same_Some is.was found.0 (sym is.found ∙ ap (λ k. slice_get old k) (sym here.0) ∙ found.1)) ∙ found.2))
      (set_kept old place slot n found.0 found.1)

  zero_slot : SlotStands g prog new (slot_of_zeros slot.guard s is.refilled.zeros)
  zero_slot = slot_stands (slot_of_zeros slot.guard s is.refilled.zeros) is.refilled.there is.refilled.are_zeros

  zeros_long : length is.refilled.zeros ≡ length (field_types prog s)
  zeros_long = zero_slot.whole

  was_long : length is.was.fields ≡ length (field_types prog s)
  was_long = was_is.stands.whole ∙ ap (λ t. length (field_types prog t)) was_is.of_struct

  field_is : (field : ℕ) (r : Shape) (t : Ty) → slice_get slot.fields field ≡ Some r → slice_get (field_types prog s) field ≡ Some t → IsOfType new t r
  field_is field r t at type =
      let one = is.refilled.fields.each field r at in
      let first = (zero_slot.typed field one.first one.at_first).typed t type in
      let second = IsOfType-more retaken_stays ((was_is.stands.typed field one.second one.at_second).typed t (ap (λ u. slice_get (field_types prog u) field) was_is.of_struct ∙ type)) in
      record { form = one.choice.alike ∙ first.form; slots = one.choice.named (may_name new (elem_of t)) first.slots second.slots }

  slot_now : SlotStands g prog new slot
  slot_now = record {
    guard = is.refilled.there;
    fields = chosen_stand is.refilled.fields;
    whole = is.refilled.fields.long ∙ zeros_long ∙ ap (λ t. length (field_types prog t)) (sym is.refilled.of_struct);
    typed = λ field r at. record { typed = λ t type. field_is field r t at (ap (λ u. slice_get (field_types prog u) field) (sym is.refilled.of_struct) ∙ type) };
  }

  pub retaken_stands : HeapStands g prog new
  retaken_stands = record {
    each = λ n x at. ⊎_elim
        (λ kept. SlotStands-more keeps retaken_stays (stands.each n x kept))
        (λ here. subst (SlotStands g prog new) here.1 slot_now)
        (set_either old place slot n x (ap (λ l. slice_get l n) (sym put) ∙ at));
  }

  module _ {r : Targets} (guard_there : HasBool g.nodes guard) (items : r.slots.items ≡ (place, guard) ∷ []) where
    refers : RefersTo g new s r
    refers = record {
      stands = reference_stands g r (subst (AllIn g) (sym items) in_it) (λ e. subst (λ ts. length (held_in g e ts) ≤ 1) (sym items) (few (bool_value g e guard)));
      slots = reference_passes (is_of new s) r (subst (AllPass (is_of new s)) (sym items) passes);
    }
      where
        in_it : AllIn g ((place, guard) ∷ [])
        in_it = record { each = All-cons (λ t. HasBool g.nodes t.1) (place, guard) [] guard_there (All-nil (λ t. HasBool g.nodes t.1)) }

        few : (b : Bool) → length (if b then place ∷ [] else []) ≤ 1
        few true = omega arith
        few false = omega arith

        passes : AllPass (is_of new s) ((place, guard) ∷ [])
        passes = record { each = All-cons (λ t. IsTrue (is_of new s t.0)) (place, guard) [] (there_of new s place slot there is.refilled.of_struct) (All-nil (λ t. IsTrue (is_of new s t.0))) }

    pub retaken : IsRetaken g prog guard s place old new r
    retaken = record {
      was = is.was;
      slot = slot;
      found = is.found;
      put = put;
      was_struct = was_is.of_struct;
      of_struct = is.refilled.of_struct;
      guarded = is.refilled.guarded;
      fields = λ h more e.
          chosen_value is.refilled.fields (zeros_long ∙ sym was_long) h more e
          ∙ ap (λ vs. if bool_value h e guard then vs else shapes_value h e is.was.fields) (is.refilled.are_zeros.value h more e ∙ sym (forms (fields_of prog s)));
      target = items;
      refers = refers;
    }

-- ---- in the words of the code

zeros_later : {a b : Graph} {forms : List Seen} {list : List Shape} → Keeps a b → AreZeros a forms list → AreZeros b forms list
zeros_later k h = record { stand = AllStand-keeps k h.stand; formed = h.formed; unnamed = h.unnamed; value = λ g more e. h.value g (k.later g more) e }

pub refilled_at : {d1 d2 d3 : Graph} {prog : Prog} {guard here : BoolId} {s : StructId} {heap : List Slot} {was : Slot} {defs : List FieldDef} {zeros list others fields : List Shape} (place : ℕ) → slice_get heap place ≡ Some was
    → HasBool d1.nodes here → ((h : Graph) → Grows d1 h → (e : Env) → bool_value h e here ≡ (bool_value h e was.guard || bool_value h e guard))
    → Keeps d1 d2 → defs ≡ fields_of prog s → AreZeros d2 (map field_form defs) zeros
    → Keeps d2 d3 → list ≡ zeros → others ≡ was.fields → AreChosen d3 guard list others fields
    → IsRefilledAt d3 prog guard s place heap (record { guard = here; of = s; fields = fields })
refilled_at {d3 = d3} {prog = prog} {guard = guard} {s = s} {was = was} {zeros = zeros} {others = others} {fields = fields} place found has is k2 defs are k3 same same' chosen = record {
  was = was;
  found = found;
  refilled = record {
    of_struct = refl;
    there = (Keeps-trans k2 k3).sorts _ BoolSort has;
    guarded = λ h more e. is h (k2.later h (k3.later h more)) e;
    zeros = zeros;
    are_zeros = subst (λ ds. AreZeros d3 (map field_form ds) zeros) defs (zeros_later k3 are);
    fields = subst (λ l. AreChosen d3 guard zeros l fields) same' (subst (λ l. AreChosen d3 guard l others fields) same chosen);
  };
}
