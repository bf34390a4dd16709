-- Which heaps stand: in what a graph grows to, with one slot more, and what the fields of their slots are.
use Rattle.std.proofs.lemmas.Bool.{eqb-true, eq-eqb, ltb-true, or_cases}
use Rattle.std.proofs.lemmas.Option.{none-some, same_Some, slice_get_within, slice_get-map, get_or_from_slice_get}
use Rattle.std.proofs.lemmas.List.Elements.{All-nil, All-cons, All-head, All-tail}
use Rattle.std.proofs.Common.{◌≡◌, ℕ, zero, suc, ◌<◌, ◌≤◌, ◌==◌, Bool, true, false, true≢false, List, [], ◌∷◌, ◌++◌, length, map, slice_get, get_or, Option, Some, None, option_map, IsTrue, refl, sym, ap, subst, ◌∙◌, arith, ◌⊎◌, inl, inr, ⊎_elim, if◌then◌else◌}
use Rattle.sk_dag.specs.declared.node.BoolId.{BoolId}
use Rattle.sk_dag.specs.declared.shape.Targets.{Targets}
use Rattle.sk_dag.specs.declared.shape.Shape.{Shape}
use Rattle.sk_dag.specs.declared.shape.Shape.TheOpen as F
use Rattle.sk_dag.specs.Graph.{Graph, Grows, HasBool, BoolSort}
use Rattle.sk_dag.specs.Eval.{bool_value, Keeps}
use Rattle.sk_dag.proofs.EvalLemmas.{Grows-trans, HasSort-grows}
use Rattle.sk_arr.specs.Held.{held_in, AllIn, AllPass}
use Rattle.sk_arr.specs.Shapes.{blank, Stands, PartPasses, SlotsPass}
use Rattle.sk_arr.proofs.Parts.{every_more}
use Rattle.sk_arr.proofs.Standing.{Stands-keeps, AllStand-keeps, reference_stands}
use Rattle.sk_arr.proofs.Values.{length_map, reference_passes, targets_pass}
use Rattle.sk_prog.specs.declared.ids.StructId.{StructId}
use Rattle.sk_prog.specs.declared.ty.Elem.{Elem}
use Rattle.sk_prog.specs.declared.ty.Elem.TheVariants as elem
use Rattle.sk_prog.specs.declared.ty.Ty.{Ty}
use Rattle.sk_prog.specs.declared.prog.FieldDef.{FieldDef}
use Rattle.sk_prog.specs.declared.prog.StructDef.{StructDef}
use Rattle.sk_prog.specs.declared.prog.Prog.{Prog}
use Rattle.sk_prog.specs.Fits.{has_field, field_in}
use Rattle.sk_heap.specs.declared.slot.Slot.{Slot}
use Rattle.sk_heap.specs.Types.{form_of, elem_of, type_in, field_form, fields_in, fields_of, field_types}
use Rattle.sk_heap.specs.Zeros.{AreZeros}
use Rattle.sk_heap.specs.Fields.{field_at, FieldsFit, is_named}
use Rattle.sk_heap.specs.Heaps.{is_struct, is_of, may_name, IsOfType, IsOfField, SlotStands, HeapStands, RefersTo}
use Rattle.sk_heap.proofs.Slots.{field_there}

-- what a graph keeps that grows
pub Keeps-grows : {a b : Graph} → Grows a b → Keeps a b
Keeps-grows more = record { later = λ g h. Grows-trans more h; sorts = λ i s h. HasSort-grows more h }

-- ---- slots of structs

-- in the new heap each slot is there and of its struct that was so in the old one
abbrev pub StaysOf : List Slot → List Slot → Type 0
StaysOf heap heap' = (s : StructId) (n : ℕ) → IsTrue (is_of heap s n) → IsTrue (is_of heap' s n)

part_passes : {test test' : ℕ → Bool} → ((n : ℕ) → IsTrue (test n) → IsTrue (test' n)) → (x : F.Shape-F Shape) → PartPasses test x → PartPasses test' x
part_passes more (F.Bit a) h = tt
part_passes more (F.Int a) h = tt
part_passes more (F.Reference targets) h = λ i d lt. more _ (h i d lt)
part_passes more (F.Array parts) h = tt

pub SlotsPass-more : {test test' : ℕ → Bool} {r : Shape} → ((n : ℕ) → IsTrue (test n) → IsTrue (test' n)) → SlotsPass test r → SlotsPass test' r
SlotsPass-more {test} {test'} {r} more h = record { parts = every_more (PartPasses test) (PartPasses test') (part_passes more) r h.parts }

may_name-more : (heap heap' : List Slot) → StaysOf heap heap' → (t : Elem) (n : ℕ) → IsTrue (may_name heap t n) → IsTrue (may_name heap' t n)
may_name-more heap heap' more elem.Bit n h = h
may_name-more heap heap' more elem.Int n h = h
may_name-more heap heap' more (elem.Reference s) n h = more s n h

pub IsOfType-more : {heap heap' : List Slot} {t : Ty} {r : Shape} → StaysOf heap heap' → IsOfType heap t r → IsOfType heap' t r
IsOfType-more {heap} {heap'} {t} more h = record { form = h.form; slots = SlotsPass-more (may_name-more heap heap' more (elem_of t)) h.slots }

pub IsOfField-more : {heap heap' : List Slot} {prog : Prog} {s : StructId} {field : ℕ} {r : Shape} → StaysOf heap heap' → IsOfField heap prog s field r → IsOfField heap' prog s field r
IsOfField-more more h = record { typed = λ t at. IsOfType-more more (h.typed t at) }

pub RefersTo-more : {g g' : Graph} {heap heap' : List Slot} {s : StructId} {target : Targets} → Keeps g g' → StaysOf heap heap' → RefersTo g heap s target → RefersTo g' heap' s target
RefersTo-more {s = s} keeps more h = record { stands = Stands-keeps keeps h.stands; slots = SlotsPass-more (more s) h.slots }

pub SlotStands-more : {g g' : Graph} {prog : Prog} {heap heap' : List Slot} {slot : Slot} → Keeps g g' → StaysOf heap heap' → SlotStands g prog heap slot → SlotStands g' prog heap' slot
SlotStands-more keeps more h = record {
  guard = keeps.sorts _ BoolSort h.guard;
  fields = AllStand-keeps keeps h.fields;
  whole = h.whole;
  typed = λ field r at. IsOfField-more more (h.typed field r at);
}

pub HeapStands-keeps : {g g' : Graph} {prog : Prog} {heap : List Slot} → Keeps g g' → HeapStands g prog heap → HeapStands g' prog heap
HeapStands-keeps keeps h = record { each = λ n slot at. SlotStands-more keeps (λ s m p. p) (h.each n slot at) }

pub HeapStands-none : (g : Graph) (prog : Prog) → HeapStands g prog []
HeapStands-none g prog = record { each = λ n slot at. absurd (none-some slot at) }

-- ---- one slot more

pub get_front : {A : Type 0} (xs : List A) (x y : A) (n : ℕ) → slice_get xs n ≡ Some y → slice_get (xs ++ x ∷ []) n ≡ Some y
get_front [] x y n h = absurd (none-some y h)
get_front (z ∷ zs) x y zero h = h
get_front (z ∷ zs) x y (suc n) h = get_front zs x y n h

pub get_last : {A : Type 0} (xs : List A) (x : A) → slice_get (xs ++ x ∷ []) (length xs) ≡ Some x
get_last [] x = refl
get_last (y ∷ ys) x = get_last ys x

get_either : {A : Type 0} (xs : List A) (x y : A) (n : ℕ) → slice_get (xs ++ x ∷ []) n ≡ Some y → (slice_get xs n ≡ Some y) ⊎ (x ≡ y)
get_either [] x y zero h = inr (same_Some x y h)
get_either [] x y (suc n) h = absurd (none-some y h)
get_either (z ∷ zs) x y zero h = inl h
get_either (z ∷ zs) x y (suc n) h = get_either zs x y n h

-- a slot that is there and of a struct
pub of_there : (heap : List Slot) (s : StructId) (n : ℕ) → IsTrue (is_of heap s n) → (slot : Slot) × (slice_get heap n ≡ Some slot) × (slot.of ≡ s)
of_there heap s n h = by (slice_get heap n) refl
  where
    id : ℕ → StructId
    id i = record { index = i }

    by : (o : Option Slot) → slice_get heap n ≡ o → (slot : Slot) × (slice_get heap n ≡ Some slot) × (slot.of ≡ s)
    by None e = absurd (true≢false (sym h ∙ ap (is_struct s) e))
    by (Some slot) e = (slot, e, ap id (eqb-true slot.of.index s.index (sym (ap (is_struct s) e) ∙ h)))

pub there_of : (heap : List Slot) (s : StructId) (n : ℕ) (slot : Slot) → slice_get heap n ≡ Some slot → slot.of ≡ s → IsTrue (is_of heap s n)
there_of heap s n slot at is = ap (is_struct s) at ∙ eq-eqb slot.of.index s.index (ap (λ i. i.index) is)

pub StaysOf-push : (heap : List Slot) (slot : Slot) → StaysOf heap (heap ++ slot ∷ [])
StaysOf-push heap slot s n h = let found = of_there heap s n h in there_of (heap ++ slot ∷ []) s n found.0 (get_front heap slot found.0 n found.1) found.2

pub HeapStands-push : {g : Graph} {prog : Prog} (heap : List Slot) (slot : Slot) → HeapStands g prog heap → SlotStands g prog (heap ++ slot ∷ []) slot → HeapStands g prog (heap ++ slot ∷ [])
HeapStands-push {g} {prog} heap slot h new = record {
  each = λ n x at. ⊎_elim
      (λ old. SlotStands-more (record { later = λ k p. p; sorts = λ i s p. p }) (StaysOf-push heap slot) (h.each n x old))
      (λ is. subst (SlotStands g prog (heap ++ slot ∷ [])) is new)
      (get_either heap slot x n at);
}

-- the value of a mapped list at a place
pub mapped_at : {A B : Type 0} (f : A → B) (xs : List A) (n : ℕ) (x : A) → slice_get xs n ≡ Some x → slice_get (map f xs) n ≡ Some (f x)
mapped_at f xs n x at = slice_get-map f xs n ∙ ap (option_map f) at

mapped_from : {A B : Type 0} (f : A → B) (xs : List A) (n : ℕ) (y : B) → slice_get (map f xs) n ≡ Some y → (x : A) × (slice_get xs n ≡ Some x) × (f x ≡ y)
mapped_from f [] n y h = absurd (none-some y h)
mapped_from f (x ∷ xs) zero y h = (x, refl, same_Some (f x) y h)
mapped_from f (x ∷ xs) (suc n) y h = mapped_from f xs n y h

-- a slot of a struct whose fields are 0
pub slot_stands : {g : Graph} {prog : Prog} {heap : List Slot} (slot : Slot) → HasBool g.nodes slot.guard → AreZeros g (map field_form (fields_of prog slot.of)) slot.fields → SlotStands g prog heap slot
slot_stands {g} {prog} {heap} slot there zeros = record {
  guard = there;
  fields = zeros.stand;
  whole = sym (length_map blank slot.fields) ∙ ap length zeros.formed ∙ length_map field_form defs ∙ sym (length_map type_in defs);
  typed = λ field r at. record {
    typed = λ t is. record {
      form =
          let def = mapped_from type_in defs field t is in
          same_Some (blank r) (form_of t) (sym (mapped_at blank slot.fields field r at) ∙ ap (λ l. slice_get l field) zeros.formed ∙ mapped_at field_form defs field def.0 def.1 ∙ ap (λ u. Some (form_of u)) def.2);
      slots = subst (SlotsPass (may_name heap (elem_of t))) (get_or_from_slice_get slot.fields field r r at) ((zeros.unnamed (may_name heap (elem_of t))).each field r (slice_get_within slot.fields field r at));
    };
  };
}
  where
    defs : List FieldDef
    defs = fields_of prog slot.of

-- ---- the fields of the slots of a reference

nth : {A : Type 0} (xs : List A) (i : ℕ) → i < length xs → (x : A) × (slice_get xs i ≡ Some x)
nth [] i l = absurd (omega (arith, l))
nth (x ∷ xs) zero l = (x, refl)
nth (x ∷ xs) (suc i) l = nth xs i (omega (arith, l))

-- a field of a struct has a type
pub type_there : (prog : Prog) (s : StructId) (field : ℕ) → IsTrue (has_field prog s field) → (t : Ty) × (slice_get (field_types prog s) field ≡ Some t)
type_there prog s field h = by (slice_get prog.structs s.index) h
  where
    by : (o : Option StructDef) → field_in field o ≡ true → (t : Ty) × (slice_get (map type_in (fields_in o)) field ≡ Some t)
    by None e = absurd (true≢false (sym e))
    by (Some d) e = let found = nth d.fields field (ltb-true field (length d.fields) e) in (type_in found.0, mapped_at type_in d.fields field found.0 found.1)

-- the field of a slot of the struct is there, and is of its type
pub field_typed : {g : Graph} {prog : Prog} {heap : List Slot} {t : Ty} (s : StructId) (field n : ℕ) → HeapStands g prog heap → slice_get (field_types prog s) field ≡ Some t → IsTrue (is_of heap s n) → (r : Shape) × (field_at heap n field ≡ Some r) × Stands g r × IsOfType heap t r
field_typed {g} {prog} {heap} {t} s field n h at is =
    let found = of_there heap s n is in
    let slot = found.0 in
    let stands = h.each n slot found.1 in
    let at' : slice_get (field_types prog slot.of) field ≡ Some t = ap (λ u. slice_get (field_types prog u) field) found.2 ∙ at in
    let within : field < length slot.fields = omega (arith, stands.whole, slice_get_within (field_types prog slot.of) field t at') in
    let r = nth slot.fields field within in
    (r.0, field_there heap n field slot r.0 found.1 r.1, subst (Stands g) (get_or_from_slice_get slot.fields field r.0 r.0 r.1) (stands.fields.each field r.0 within), (stands.typed field r.0 r.1).typed t at')

-- each target of a reference is a slot of the struct
pub targets_of : {g : Graph} {heap : List Slot} {s : StructId} {target : Targets} → RefersTo g heap s target → AllPass (is_of heap s) target.slots.items
targets_of {heap = heap} {s = s} {target = target} h = targets_pass (is_of heap s) target h.slots

pub named_passes : (test : ℕ → Bool) (targets : List (ℕ × BoolId)) (n : ℕ) → AllPass test targets → IsTrue (is_named n targets) → IsTrue (test n)
named_passes test [] n h is = absurd (true≢false (sym is))
named_passes test (t ∷ ts) n h is = ⊎_elim
    (λ here. subst (λ m. IsTrue (test m)) (eqb-true t.0 n here) (All-head (λ x. IsTrue (test x.0)) t ts h.each))
    (λ there. named_passes test ts n (record { each = All-tail (λ x. IsTrue (test x.0)) t ts h.each }) there)
    (or_cases (t.0 == n) (is_named n ts) is)

pub fields_fit : {g : Graph} {prog : Prog} {heap : List Slot} {s : StructId} {target : Targets} {t : Ty} (field : ℕ) → HeapStands g prog heap → slice_get (field_types prog s) field ≡ Some t → RefersTo g heap s target → FieldsFit g heap target.slots.items field (form_of t)
fields_fit {g} {prog} {heap} {s} {target} {t} field h at refers = record {
  each = λ i d lt.
      let found = field_typed s field (get_or target.slots.items i d).0 h at ((targets_of refers).each i d lt) in
      record { shape = found.0; found = found.1; stands = found.2; formed = found.3.form };
}

-- ---- the reference to a new slot

pub refers_new : {g : Graph} (heap : List Slot) (slot : Slot) (s : StructId) (guard : BoolId) (r : Targets) → slot.of ≡ s → HasBool g.nodes guard → r.slots.items ≡ (length heap, guard) ∷ [] → RefersTo g (heap ++ slot ∷ []) s r
refers_new {g} heap slot s guard r is there items = record {
  stands = reference_stands g r (subst (AllIn g) (sym items) in_it) (λ e. subst (λ ts. length (held_in g e ts) ≤ 1) (sym items) (few (bool_value g e guard)));
  slots = reference_passes (is_of heap' s) r (subst (AllPass (is_of heap' s)) (sym items) passes);
}
  where
    heap' : List Slot
    heap' = heap ++ slot ∷ []

    in_it : AllIn g ((length heap, guard) ∷ [])
    in_it = record { each = All-cons (λ t. HasBool g.nodes t.1) (length heap, guard) [] there (All-nil (λ t. HasBool g.nodes t.1)) }

    few : (b : Bool) → length (if b then length heap ∷ [] else []) ≤ 1
    few true = omega arith
    few false = omega arith

    passes : AllPass (is_of heap' s) ((length heap, guard) ∷ [])
    passes = record { each = All-cons (λ t. IsTrue (is_of heap' s t.0)) (length heap, guard) [] (there_of heap' s (length heap) slot (get_last heap slot) is) (All-nil (λ t. IsTrue (is_of heap' s t.0))) }
