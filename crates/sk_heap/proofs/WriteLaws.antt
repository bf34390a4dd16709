-- Writes through a reference, target by target.
use Rattle.std.proofs.lemmas.Bool.{eqb-true, eqb-false, cases_Bool, and_left, and_right, and_parts, or_parts, and_cases}
use Rattle.std.proofs.lemmas.Option.{same_Some, slice_get_within, slice_get-get_or, get_or_from_slice_get, slice_get-map, none-some}
use Rattle.std.proofs.Common.{◌≡◌, ℕ, ◌≤◌, Bool, true, false, true≢false, ◌==◌, ◌||◌, ◌&&◌, List, [], ◌∷◌, length, map, slice_get, get_or, Option, None, Some, option_map, IsTrue, refl, sym, ap, subst, ◌∙◌, arith, ⊎_elim, if◌then◌else◌}
use Rattle.sk_dag.specs.declared.env.Env.{Env}
use Rattle.sk_dag.specs.declared.node.BoolId.{BoolId}
use Rattle.sk_dag.specs.declared.shape.Targets.{Targets}
use Rattle.sk_dag.specs.declared.shape.Seen.{Seen}
use Rattle.sk_dag.specs.declared.shape.Shape.{Shape}
use Rattle.sk_dag.specs.declared.shape.Shape.TheVariants as shape
use Rattle.sk_dag.specs.Graph.{Graph, Grows, HasBool, BoolSort}
use Rattle.sk_dag.specs.Eval.{bool_value, Keeps}
use Rattle.sk_dag.specs.EvalShape.{shape_value, held_slot}
use Rattle.sk_arr.specs.Held.{held_in, is_among}
use Rattle.sk_arr.specs.Shapes.{blank, Stands}
use Rattle.sk_arr.specs.Answers.{IsChoice}
use Rattle.sk_dag.proofs.EvalLemmas.{Keeps-trans}
use Rattle.sk_arr.proofs.Makers.{Keeps-refl}
use Rattle.sk_arr.proofs.Standing.{Stands-keeps, targets_few}
use Rattle.sk_arr.proofs.Targets.{first_of, held_slot_first}
use Rattle.sk_arr.proofs.Values.{length_map}
use Rattle.sk_prog.specs.declared.ids.StructId.{StructId}
use Rattle.sk_prog.specs.declared.prog.Prog.{Prog}
use Rattle.sk_heap.specs.declared.slot.Slot.{Slot}
use Rattle.sk_heap.specs.Types.{elem_of, field_types}
use Rattle.sk_heap.specs.Fields.{field_at, field_value, with_field, is_named, HasField, FieldsFit}
use Rattle.sk_heap.specs.Heaps.{is_of, may_name, IsOfType, IsOfField, SlotStands, HeapStands}
use Rattle.sk_heap.specs.Answers.{guard_of, struct_of, slot_of, is_at, is_written, MayWrite, CanBeWritten, IsFieldWritten}
use Rattle.sk_heap.specs.Steps.{IsRewritten, HasWritten, frame, AreWritten}
use Rattle.sk_heap.proofs.Slots.{put_here, put_other_slot, put_other_field, put_frames, slot_there, field_there, frame_there}
use Rattle.sk_heap.proofs.Heaps.{Keeps-grows, StaysOf, of_there, there_of, IsOfType-more, IsOfField-more, targets_of, named_passes, fields_fit, type_there}

or_false : (b : Bool) → (b || false) ≡ b
or_false true = refl
or_false false = refl

-- where at most one holds, that is the slot of the reference
pub among_at : (g : Graph) (e : Env) (targets : List (ℕ × BoolId)) (n : ℕ) → length (held_in g e targets) ≤ 1 → is_among n (held_in g e targets) ≡ is_at (held_slot g e targets) n
among_at g e targets n few = by (held_in g e targets) few ∙ sym (ap (λ s. is_at s n) (held_slot_first g e targets))
  where
    by : (ns : List ℕ) → length ns ≤ 1 → is_among n ns ≡ is_at (first_of ns) n
    by [] l = refl
    by (m ∷ []) l = or_false (m == n)
    by (m ∷ k ∷ ks) l = absurd (omega (arith, l))

-- ---- one slot

pub rewritten_by : {g1 g2 g : Graph} (at : BoolId) {guard cond : BoolId} {heap : List Slot} {target : Targets} {n field : ℕ} {value old r : Shape} → field_at heap n field ≡ Some old → ((h : Graph) → Grows g1 h → (e : Env) → bool_value h e at ≡ is_among n (held_in h e target.slots.items)) → Keeps g1 g2 → ((h : Graph) → Grows g2 h → (e : Env) → bool_value h e cond ≡ (bool_value h e guard && bool_value h e at)) → Keeps g2 g → IsChoice g cond value old r → IsRewritten g guard heap target n field value r
rewritten_by at {guard = guard} {cond = cond} {old = old} found holds keeps1 both keeps2 choice = record {
  old = old;
  found = found;
  cond = cond;
  chosen = choice;
  holds = λ h more e. both h (keeps2.later h more) e ∙ ap (λ b. bool_value h e guard && b) (holds h (keeps1.later h (keeps2.later h more)) e);
}

pub IsChoice-keeps : {a b : Graph} {c : BoolId} {x y r : Shape} → Keeps a b → IsChoice a c x y r → IsChoice b c x y r
IsChoice-keeps keeps h = record { stands = Stands-keeps keeps h.stands; alike = h.alike; named = h.named; value = λ k more e. h.value k (keeps.later k more) e }

pub IsRewritten-keeps : {a b : Graph} {guard : BoolId} {heap : List Slot} {target : Targets} {n field : ℕ} {value r : Shape} → Keeps a b → IsRewritten a guard heap target n field value r → IsRewritten b guard heap target n field value r
IsRewritten-keeps keeps h = record { old = h.old; found = h.found; cond = h.cond; chosen = IsChoice-keeps keeps h.chosen; holds = λ k more e. h.holds k (keeps.later k more) e }

-- ---- one after another

pub written_none : {g : Graph} {guard : BoolId} {target : Targets} {targets : List (ℕ × BoolId)} {field : ℕ} {value : Shape} {old : List Slot} → targets ≡ [] → AreWritten g guard target targets field value old old
written_none {targets = targets} none = record {
  frames = refl;
  kept = λ n k h. refl;
  written = λ n h. absurd (true≢false (sym h ∙ ap (is_named n) none));
}

-- a field that was there is there
pub still_there : {g : Graph} {guard : BoolId} {target : Targets} {targets : List (ℕ × BoolId)} {field : ℕ} {value : Shape} {old new : List Slot} → AreWritten g guard target targets field value old new → (n : ℕ) (r : Shape) → field_at old n field ≡ Some r → HasField new n field
still_there {targets = targets} {field = field} h n r found = ⊎_elim
    (λ named. let w = h.written n named in record { shape = w.shape; found = w.found })
    (λ unnamed. record { shape = r; found = h.kept n field (and_left (is_named n targets) (field == field) unnamed) ∙ found })
    (cases_Bool (is_named n targets))

pub written_more : {mid g : Graph} {guard : BoolId} {target : Targets} {targets more : List (ℕ × BoolId)} {n : ℕ} {b : BoolId} {field : ℕ} {value r : Shape} {old new last : List Slot} → targets ≡ (n, b) ∷ more → IsRewritten mid guard old target n field value r → Keeps mid g → AreWritten g guard target more field value old new → last ≡ with_field new n field r → AreWritten g guard target targets field value old last
written_more {mid} {g} {guard} {target} {targets} {more} {n} {b} {field} {value} {r} {old} {new} {last} is rewritten keeps below put = subst (AreWritten g guard target targets field value old) (sym put) record {
  frames = put_frames new n field r ∙ below.frames;
  kept = λ m k h. kept_at m k (sym (ap (λ ts. is_named m ts && (k == field)) is) ∙ h);
  written = λ m h. written_at m (sym (ap (is_named m) is) ∙ h);
}
  where
    after : List Slot
    after = with_field new n field r

    there : HasField new n field
    there = still_there below n rewritten.old rewritten.found

    kept_at : (m k : ℕ) → (((n == m) || is_named m more) && (k == field)) ≡ false → field_at after m k ≡ field_at old m k
    kept_at m k h = ⊎_elim
        (λ here. let other : (k == field) ≡ false = sym (ap (λ x. (x || is_named m more) && (k == field)) here) ∙ h in put_other_field new n field r m k (λ e. eqb-false k field other e) ∙ below.kept m k (and_right (is_named m more) (k == field) other))
        (λ there'. put_other_slot new n field r m k (λ e. eqb-false n m there' (sym e)) ∙ below.kept m k (sym (ap (λ x. (x || is_named m more) && (k == field)) there') ∙ h))
        (cases_Bool (n == m))

    written_at : (m : ℕ) → ((n == m) || is_named m more) ≡ true → HasWritten g guard old target m field value (field_at after m field)
    written_at m h = ⊎_elim
        (λ here. subst (λ x. HasWritten g guard old target x field value (field_at after x field)) (eqb-true n m here) (record { shape = r; found = put_here new n field r there.shape there.found; is = IsRewritten-keeps keeps rewritten }))
        (λ there'. let w = below.written m (sym (ap (λ x. x || is_named m more) there') ∙ h) in record { shape = w.shape; found = put_other_slot new n field r m field (λ e. eqb-false n m there' (sym e)) ∙ w.found; is = w.is })
        (cases_Bool (n == m))

-- ---- the whole write

among_named : (g : Graph) (e : Env) (targets : List (ℕ × BoolId)) (n : ℕ) → is_named n targets ≡ false → is_among n (held_in g e targets) ≡ false
among_named g e [] n h = refl
among_named g e (t ∷ ts) n h = let parts = or_parts (t.0 == n) (is_named n ts) h in by parts.0 (among_named g e ts n parts.1) (bool_value g e t.1)
  where
    by : (t.0 == n) ≡ false → is_among n (held_in g e ts) ≡ false → (o : Bool) → is_among n (if o then t.0 ∷ held_in g e ts else held_in g e ts) ≡ false
    by differ rest true = ap (λ x. x || is_among n (held_in g e ts)) differ ∙ rest
    by differ rest false = rest

map_map : {A B C : Type 0} (f : A → B) (k : B → C) (xs : List A) → map k (map f xs) ≡ map (λ x. k (f x)) xs
map_map f k [] = refl
map_map f k (x ∷ xs) = ap (λ l. k (f x) ∷ l) (map_map f k xs)

-- what follows of the frames
pub frames_guards : (old new : List Slot) → map frame new ≡ map frame old → map guard_of new ≡ map guard_of old
frames_guards old new h = sym (map_map frame (λ f. f.0) new) ∙ ap (map (λ f. f.0)) h ∙ map_map frame (λ f. f.0) old

pub frames_structs : (old new : List Slot) → map frame new ≡ map frame old → map struct_of new ≡ map struct_of old
frames_structs old new h = sym (map_map frame (λ f. f.1) new) ∙ ap (map (λ f. f.1)) h ∙ map_map frame (λ f. f.1) old

pub frames_long : (old new : List Slot) → map frame new ≡ map frame old → length new ≡ length old
frames_long old new h = sym (length_map frame new) ∙ ap length h ∙ length_map frame old

pub StaysOf-frames : (old new : List Slot) → map frame old ≡ map frame new → StaysOf old new
StaysOf-frames old new h s n is =
    let found = of_there old s n is in
    let was = frame_there new old n found.0 h found.1 in
    there_of new s n was.0 was.1 (sym (ap (λ f. f.1) was.2) ∙ found.2)

-- where the structs stay, each slot stays of its struct
pub StaysOf-structs : (old new : List Slot) → map struct_of new ≡ map struct_of old → StaysOf old new
StaysOf-structs old new same s n is = let found = of_there old s n is in by found.0 found.1 found.2 (slice_get new n) refl
  where
    by : (was : Slot) → slice_get old n ≡ Some was → was.of ≡ s → (o : Option Slot) → slice_get new n ≡ o → IsTrue (is_of new s n)
    by was at of_s o e = now o e (sym (ap (option_map struct_of) e) ∙ sym (slice_get-map struct_of new n) ∙ ap (λ l. slice_get l n) same ∙ slice_get-map struct_of old n ∙ ap (option_map struct_of) at)
      where
        now : (u : Option Slot) → slice_get new n ≡ u → option_map struct_of u ≡ Some was.of → IsTrue (is_of new s n)
        now None e' p = absurd (none-some was.of p)
        now (Some slot) e' p = there_of new s n slot e' (same_Some slot.of was.of p ∙ of_s)

pub fields_written : {g0 g : Graph} {guard : BoolId} {target : Targets} {field : ℕ} {value : Shape} {old new : List Slot} → Stands g0 (shape.Reference target) → Keeps g0 g → AreWritten g guard target target.slots.items field value old new → IsFieldWritten g guard target field value old new
fields_written {g0} {g} {guard} {target} {field} {value} {old} {new} stands keeps are = record {
  guards = frames_guards old new are.frames;
  structs = frames_structs old new are.frames;
  fields = λ h more e n k. ⊎_elim (λ within. at h more e n k within) (λ beyond. beside h more e n k beyond) (cases_Bool (is_named n target.slots.items && (k == field)));
}
  where
    Goal : Graph → Env → ℕ → ℕ → Bool → Type 0
    Goal h e n k b = field_value h e new n k ≡ (if b then Some (shape_value h e value) else field_value h e old n k)

    held_at : (h : Graph) → Grows g h → (e : Env) (n : ℕ) → is_among n (held_in h e target.slots.items) ≡ is_at (slot_of h e target) n
    held_at h more e n = among_at h e target.slots.items n (targets_few h target (Stands-keeps (Keeps-grows more) (Stands-keeps keeps stands)) e)

    beside : (h : Graph) → Grows g h → (e : Env) (n k : ℕ) → (is_named n target.slots.items && (k == field)) ≡ false → Goal h e n k (is_written h e guard target field n k)
    beside h more e n k beyond = subst (Goal h e n k) (sym (and_right (bool_value h e guard) (is_at (slot_of h e target) n && (k == field)) none)) (ap (option_map (shape_value h e)) (are.kept n k beyond))
      where
        none : (is_at (slot_of h e target) n && (k == field)) ≡ false
        none = ⊎_elim
            (λ unnamed. and_left (is_at (slot_of h e target) n) (k == field) (sym (held_at h more e n) ∙ among_named h e target.slots.items n unnamed))
            (λ other. and_right (is_at (slot_of h e target) n) (k == field) other)
            (and_cases (is_named n target.slots.items) (k == field) beyond)

    at : (h : Graph) → Grows g h → (e : Env) (n k : ℕ) → (is_named n target.slots.items && (k == field)) ≡ true → Goal h e n k (is_written h e guard target field n k)
    at h more e n k within =
        let parts = and_parts (is_named n target.slots.items) (k == field) within in
        let w = are.written n parts.0 in
        let cond : is_written h e guard target field n k ≡ bool_value h e w.is.cond =
        ap (λ b. bool_value h e guard && (is_at (slot_of h e target) n && b)) parts.1
        ∙ ap (λ b. bool_value h e guard && b) (and_true (is_at (slot_of h e target) n))
        ∙ ap (λ b. bool_value h e guard && b) (sym (held_at h more e n))
        ∙ sym (w.is.holds h more e) in
        subst (λ m. field_value h e new n m ≡ (if is_written h e guard target field n k then Some (shape_value h e value) else field_value h e old n m)) (sym (eqb-true k field parts.1))
        (ap (option_map (shape_value h e)) w.found
        ∙ chosen (shape_value h e value) (shape_value h e w.is.old) (bool_value h e w.is.cond) (w.is.chosen.value h more e)
        ∙ ap (λ o. if bool_value h e w.is.cond then Some (shape_value h e value) else o) (sym (ap (option_map (shape_value h e)) w.is.found))
        ∙ ap (λ b. if b then Some (shape_value h e value) else field_value h e old n field) (sym cond))
      where
        and_true : (b : Bool) → (b && true) ≡ b
        and_true true = refl
        and_true false = refl

        chosen : {z : Seen} (x y : Seen) (b : Bool) → z ≡ (if b then x else y) → Some z ≡ (if b then Some x else Some y)
        chosen x y true q = ap Some q
        chosen x y false q = ap Some q

-- the heap that is written stands
pub written_stands : {g0 g : Graph} {prog : Prog} {guard : BoolId} {s : StructId} {target : Targets} {field : ℕ} {value : Shape} {old new : List Slot} → MayWrite g0 prog old s target field value → Keeps g0 g → AreWritten g guard target target.slots.items field value old new → HeapStands g prog new
written_stands {g0} {g} {prog} {guard} {s} {target} {field} {value} {old} {new} may keeps are = record { each = stands_at }
  where
    stays : StaysOf old new
    stays = StaysOf-frames old new (sym are.frames)

    -- a field of the new heap stands and is of its type
    field_is : (n k : ℕ) (r : Shape) (was : Slot) → slice_get old n ≡ Some was → field_at new n k ≡ Some r → Stands g r × IsOfField new prog was.of k r
    field_is n k r was at found = ⊎_elim in_it beside (cases_Bool (is_named n target.slots.items && (k == field)))
      where
        stood : SlotStands g0 prog old was
        stood = may.heap_stands.each n was at

        beside : (is_named n target.slots.items && (k == field)) ≡ false → Stands g r × IsOfField new prog was.of k r
        beside beyond =
            let there = slot_there old n k r (sym (are.kept n k beyond) ∙ found) in
            let same : there.0 ≡ was = same_Some there.0 was (sym there.1 ∙ at) in
            let at' : slice_get was.fields k ≡ Some r = sym (ap (λ x. slice_get x.fields k) same) ∙ there.2 in (
              Stands-keeps keeps (subst (Stands g0) (get_or_from_slice_get was.fields k r r at') (stood.fields.each k r (slice_get_within was.fields k r at'))),
              IsOfField-more stays (stood.typed k r at'),
            )

        in_it : (is_named n target.slots.items && (k == field)) ≡ true → Stands g r × IsOfField new prog was.of k r
        in_it within =
            let parts = and_parts (is_named n target.slots.items) (k == field) within in
            let w = are.written n parts.0 in
            let k_is : k ≡ field = eqb-true k field parts.1 in
            let same : w.shape ≡ r = same_Some w.shape r (sym w.found ∙ sym (ap (field_at new n) k_is) ∙ found) in
            let of_s = of_there old s n (named_passes (is_of old s) target.slots.items n (targets_of may.refers) parts.0) in
            let was_of : was.of ≡ s = ap (λ x. x.of) (same_Some was of_s.0 (sym at ∙ of_s.1)) ∙ of_s.2 in
            let there = slot_there old n field w.is.old w.is.found in
            let is_was : there.0 ≡ was = same_Some there.0 was (sym there.1 ∙ at) in
            let old_at : slice_get was.fields field ≡ Some w.is.old = sym (ap (λ x. slice_get x.fields field) is_was) ∙ there.2 in (
              subst (Stands g) same w.is.chosen.stands,
              record {
                typed = λ t typed.
                    let typed' : slice_get (field_types prog was.of) field ≡ Some t = sym (ap (slice_get (field_types prog was.of)) k_is) ∙ typed in
                    let typed_s : slice_get (field_types prog s) field ≡ Some t = sym (ap (λ u. slice_get (field_types prog u) field) was_of) ∙ typed' in
                    let v = may.typed.typed t typed_s in
                    let o = (stood.typed field w.is.old old_at).typed t typed' in
                    IsOfType-more stays (subst (IsOfType old t) same (record {
                      form = w.is.chosen.alike ∙ v.form;
                      slots = w.is.chosen.named (may_name old (elem_of t)) v.slots o.slots;
                    }));
              },
            )

    stands_at : (n : ℕ) (slot : Slot) → slice_get new n ≡ Some slot → SlotStands g prog new slot
    stands_at n slot at =
        let was = frame_there old new n slot are.frames at in
        let stood = may.heap_stands.each n was.0 was.1 in
        let guard_is : slot.guard ≡ was.0.guard = ap (λ f. f.0) was.2 in
        let of_is : slot.of ≡ was.0.of = ap (λ f. f.1) was.2 in
        let long : length slot.fields ≡ length was.0.fields = ap (λ f. f.2) was.2 in
        record {
          guard = subst (λ b. HasBool g.nodes b) (sym guard_is) (keeps.sorts was.0.guard.index BoolSort stood.guard);
          fields = record { each = λ k d lt. (field_is n k (get_or slot.fields k d) was.0 was.1 (field_there new n k slot (get_or slot.fields k d) at (slice_get-get_or slot.fields k d lt))).0 };
          whole = long ∙ stood.whole ∙ ap (λ u. length (field_types prog u)) (sym of_is);
          typed = λ k r found. subst (λ u. IsOfField new prog u k r) (sym of_is) (field_is n k r was.0 was.1 (field_there new n k slot r at found)).1;
        }

-- what a write asks, in the words of its steps
pub can_fit : {g : Graph} {heap : List Slot} {target : Targets} {field : ℕ} {value : Shape} → CanBeWritten g heap target field value → FieldsFit g heap target.slots.items field (blank value)
can_fit {g} {heap} {target} {field} {value} can =
    let may = can.may in
    let t = type_there can.prog can.of_struct field may.there in
    subst (FieldsFit g heap target.slots.items field) (sym (may.typed.typed t.0 t.1).form) (fields_fit field may.heap_stands t.1 may.refers)

pub ruleset writing = (Keeps-refl, Keeps-trans, written_none)
