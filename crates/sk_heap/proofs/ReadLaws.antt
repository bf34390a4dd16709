-- Reads through a reference, target by target.
use Rattle.std.proofs.lemmas.Bool.{eq-eqb, or_left, or_right}
use Rattle.std.proofs.lemmas.Option.{none-some, same_Some}
use Rattle.std.proofs.lemmas.List.Elements.{All-head, All-tail}
use Rattle.std.proofs.Common.{◌≡◌, ℕ, Bool, true, false, ◌==◌, is_none, List, [], ◌∷◌, Some, None, option_map, slice_get, refl, sym, ap, subst, ◌∙◌, if◌then◌else◌}
use Rattle.sk_dag.specs.declared.env.Env.{Env}
use Rattle.sk_dag.specs.declared.node.BoolId.{BoolId}
use Rattle.sk_dag.specs.declared.shape.Targets.{Targets}
use Rattle.sk_dag.specs.declared.shape.Seen.{Seen}
use Rattle.sk_dag.specs.declared.shape.Shape.{Shape}
use Rattle.sk_dag.specs.Graph.{Graph, Grows, HasBool, BoolSort}
use Rattle.sk_dag.specs.Eval.{bool_value, Keeps}
use Rattle.sk_dag.specs.EvalShape.{shape_value, held_slot}
use Rattle.sk_arr.specs.Held.{AllIn}
use Rattle.sk_arr.specs.Shapes.{blank, Stands, SlotsPass}
use Rattle.sk_arr.specs.Answers.{IsCopy, IsChoice}
use Rattle.sk_dag.proofs.EvalLemmas.{Keeps-trans}
use Rattle.sk_arr.proofs.Makers.{Keeps-refl}
use Rattle.sk_arr.proofs.Standing.{Stands-keeps}
use Rattle.sk_prog.specs.declared.ids.StructId.{StructId}
use Rattle.sk_prog.specs.declared.ty.Ty.{Ty}
use Rattle.sk_prog.specs.declared.prog.Prog.{Prog}
use Rattle.sk_heap.specs.declared.slot.Slot.{Slot}
use Rattle.sk_heap.specs.Types.{form_of, elem_of, field_types}
use Rattle.sk_heap.specs.Zeros.{IsZero}
use Rattle.sk_heap.specs.Fields.{field_at, field_value, HasField, FieldFits, FieldsFit, is_named}
use Rattle.sk_heap.specs.Heaps.{is_of, may_name, IsOfType, HeapStands, RefersTo}
use Rattle.sk_heap.specs.Answers.{IsFieldRead}
use Rattle.sk_heap.specs.Steps.{IsReadOf}
use Rattle.sk_heap.proofs.Heaps.{field_typed, targets_of, named_passes}

-- ---- what follows of the targets behind the first

pub more_in : {g : Graph} {targets more : List (ℕ × BoolId)} {t : ℕ × BoolId} → targets ≡ t ∷ more → AllIn g targets → AllIn g more
more_in {g} {targets} {more} {t} is h = record { each = All-tail (λ x. HasBool g.nodes x.1) t more (subst (AllIn g) is h).each }

pub first_in : {g : Graph} {targets more : List (ℕ × BoolId)} {t : ℕ × BoolId} → targets ≡ t ∷ more → AllIn g targets → HasBool g.nodes t.1
first_in {g} {targets} {more} {t} is h = All-head (λ x. HasBool g.nodes x.1) t more (subst (AllIn g) is h).each

pub FieldFits-keeps : {a b : Graph} {heap : List Slot} {n field : ℕ} {form : Seen} → Keeps a b → FieldFits a heap n field form → FieldFits b heap n field form
FieldFits-keeps keeps h = record { shape = h.shape; found = h.found; stands = Stands-keeps keeps h.stands; formed = h.formed }

pub FieldsFit-keeps : {a b : Graph} {heap : List Slot} {targets : List (ℕ × BoolId)} {field : ℕ} {form : Seen} → Keeps a b → FieldsFit a heap targets field form → FieldsFit b heap targets field form
FieldsFit-keeps keeps h = record { each = λ i d lt. FieldFits-keeps keeps (h.each i d lt) }

pub more_fit : {g : Graph} {heap : List Slot} {targets more : List (ℕ × BoolId)} {t : ℕ × BoolId} {field : ℕ} {form : Seen} → targets ≡ t ∷ more → FieldsFit g heap targets field form → FieldsFit g heap more field form
more_fit {g} {heap} {targets} {more} {t} {field} {form} is h = record { each = All-tail (λ x. FieldFits g heap x.0 field form) t more (subst (λ ts. FieldsFit g heap ts field form) is h).each }

pub first_fits : {g : Graph} {heap : List Slot} {targets more : List (ℕ × BoolId)} {t : ℕ × BoolId} {field : ℕ} {form : Seen} → targets ≡ t ∷ more → FieldsFit g heap targets field form → FieldFits g heap t.0 field form
first_fits {g} {heap} {targets} {more} {t} {field} {form} is h = All-head (λ x. FieldFits g heap x.0 field form) t more (subst (λ ts. FieldsFit g heap ts field form) is h).each

pub fits_has : {g : Graph} {heap : List Slot} {n field : ℕ} {form : Seen} → FieldFits g heap n field form → HasField heap n field
fits_has h = record { shape = h.shape; found = h.found }

-- the field that is there is the one that fits
pub found_stands : {g : Graph} {heap : List Slot} {n field : ℕ} {form : Seen} {r : Shape} → FieldFits g heap n field form → field_at heap n field ≡ Some r → Stands g r
found_stands {g} {heap} {n} {field} {form} {r} h at = subst (Stands g) (same_Some h.shape r (sym h.found ∙ at)) h.stands

pub found_formed : {g : Graph} {heap : List Slot} {n field : ℕ} {form : Seen} {r : Shape} → FieldFits g heap n field form → field_at heap n field ≡ Some r → blank r ≡ form
found_formed {g} {heap} {n} {field} {form} {r} h at = ap blank (same_Some r h.shape (sym at ∙ h.found)) ∙ h.formed

-- ---- the field of the slot whose target holds

-- one target alone
pub alone : {targets more : List (ℕ × BoolId)} {n : ℕ} {guard : BoolId} → targets ≡ (n, guard) ∷ more → more ≡ [] → targets ≡ (n, guard) ∷ []
alone {targets} {more} {n} {guard} is none = subst (λ l. targets ≡ (n, guard) ∷ l) none is

pub read_none : {g : Graph} {heap : List Slot} {targets : List (ℕ × BoolId)} {form : Seen} {field : ℕ} {r : Shape} → targets ≡ [] → IsZero g form r → IsReadOf g heap targets form field r
read_none {targets = targets} none zero = record {
  stands = zero.stands;
  formed = zero.formed;
  named = λ test h. zero.unnamed test;
  value = λ h more e n held. absurd (none-some n (sym (ap (held_slot h e) none) ∙ held));
}

pub read_one : {g : Graph} {heap : List Slot} {targets : List (ℕ × BoolId)} {n : ℕ} {guard : BoolId} {form : Seen} {field : ℕ} {old r : Shape} → targets ≡ (n, guard) ∷ [] → FieldFits g heap n field form → field_at heap n field ≡ Some old → IsCopy g old r → IsReadOf g heap targets form field r
read_one {g} {heap} {targets} {n} {guard} {form} {field} {old} {r} is fits at copy = record {
  stands = copy.stands;
  formed = copy.alike ∙ found_formed fits at;
  named = λ test h. copy.named test (h n old (ap (is_named n) is ∙ or_left (n == n) false (eq-eqb n n refl)) at);
  value = λ h more e m held. by h e m (bool_value h e guard) (sym (ap (held_slot h e) is) ∙ held);
}
  where
    by : (h : Graph) (e : Env) (m : ℕ) (b : Bool) → (if b then Some n else None) ≡ Some m → field_value h e heap m field ≡ Some (shape_value h e r)
    by h e m true held = sym (ap (λ k. field_value h e heap k field) (same_Some n m held)) ∙ ap (option_map (shape_value h e)) at ∙ ap Some (sym (copy.value h e))
    by h e m false held = absurd (none-some m held)

pub read_more : {mid g : Graph} {heap : List Slot} {targets more : List (ℕ × BoolId)} {n : ℕ} {guard : BoolId} {form : Seen} {field : ℕ} {old rest r : Shape} → targets ≡ (n, guard) ∷ more → FieldFits mid heap n field form → field_at heap n field ≡ Some old → IsReadOf mid heap more form field rest → Keeps mid g → IsChoice g guard old rest r → IsReadOf g heap targets form field r
read_more {mid} {g} {heap} {targets} {more} {n} {guard} {form} {field} {old} {rest} {r} is fits at below keeps choice = record {
  stands = choice.stands;
  formed = choice.alike ∙ found_formed fits at;
  named = λ test h.
      choice.named test
      (h n old (ap (is_named n) is ∙ or_left (n == n) (is_named n more) (eq-eqb n n refl)) at)
      (below.named test (λ m o there found. h m o (ap (is_named m) is ∙ or_right (n == m) (is_named m more) there) found));
  value = λ h later e m held. by h later e m (bool_value h e guard) (choice.value h later e) (sym (ap (held_slot h e) is) ∙ held);
}
  where
    by : (h : Graph) → Grows g h → (e : Env) (m : ℕ) (b : Bool) → shape_value h e r ≡ (if b then shape_value h e old else shape_value h e rest) → (if b then Some n else held_slot h e more) ≡ Some m → field_value h e heap m field ≡ Some (shape_value h e r)
    by h later e m true value held = sym (ap (λ k. field_value h e heap k field) (same_Some n m held)) ∙ ap (option_map (shape_value h e)) at ∙ ap Some (sym value)
    by h later e m false value held = below.value h (keeps.later h later) e m held ∙ ap Some (sym value)

-- the whole read
pub field_read : {g0 g1 g : Graph} {prog : Prog} {heap : List Slot} {s : StructId} {target : Targets} {t : Ty} {field : ℕ} {r : Shape} {null : BoolId} → HeapStands g0 prog heap → RefersTo g0 heap s target → slice_get (field_types prog s) field ≡ Some t → HasBool g1.nodes null → ((h : Graph) → Grows g1 h → (e : Env) → bool_value h e null ≡ is_none (held_slot h e target.slots.items)) → Keeps g1 g → IsReadOf g heap target.slots.items (form_of t) field r → IsFieldRead g heap prog s target field r null
field_read {heap = heap} {s = s} {target = target} {t = t} {field = field} {r = r} {null = null} stands refers at there value keeps read = record {
  stands = read.stands;
  typed = record { typed = λ u is. subst (λ v. IsOfType heap v r) (same_Some t u (sym at ∙ is)) of_type };
  is_null = record { there = keeps.sorts null.index BoolSort there; value = λ h more e. value h (keeps.later h more) e };
  value = read.value;
}
  where
    of_type : IsOfType heap t r
    of_type = record {
      form = read.formed;
      slots = read.named (may_name heap (elem_of t)) (λ n old there' found.
          let typed = field_typed s field n stands at (named_passes (is_of heap s) target.slots.items n (targets_of refers) there') in
          subst (SlotsPass (may_name heap (elem_of t))) (same_Some typed.0 old (sym typed.1 ∙ found)) typed.3.slots);
    }

pub ruleset somes = (more_in, first_in)

pub ruleset reading = (Keeps-refl, Keeps-trans)
