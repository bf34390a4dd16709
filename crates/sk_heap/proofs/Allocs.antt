-- One slot more.
use Rattle.std.proofs.Common.{◌≡◌, ℕ, List, [], ◌∷◌, ◌++◌, length, map, refl, sym, ap, subst, ◌∙◌}
use Rattle.sk_dag.specs.declared.node.BoolId.{BoolId}
use Rattle.sk_dag.specs.declared.shape.Targets.{Targets}
use Rattle.sk_dag.specs.declared.shape.Shape.{Shape}
use Rattle.sk_dag.specs.Graph.{Graph, HasBool, BoolSort}
use Rattle.sk_dag.specs.Eval.{Keeps}
use Rattle.sk_prog.specs.declared.ids.StructId.{StructId}
use Rattle.sk_prog.specs.declared.prog.FieldDef.{FieldDef}
use Rattle.sk_prog.specs.declared.prog.Prog.{Prog}
use Rattle.sk_heap.specs.declared.slot.Slot.{Slot}
use Rattle.sk_heap.specs.Types.{form_of, type_in, field_form, fields_of}
use Rattle.sk_heap.specs.Zeros.{AreZeros}
use Rattle.sk_heap.specs.Heaps.{HeapStands}
use Rattle.sk_heap.specs.Answers.{IsAllocated}
use Rattle.sk_heap.proofs.Heaps.{HeapStands-keeps, HeapStands-push, slot_stands, refers_new}

abbrev pub slot_of_zeros : BoolId → StructId → List Shape → Slot
slot_of_zeros guard s fields = record { guard = guard; of = s; fields = fields }

pub forms : (defs : List FieldDef) → map form_of (map type_in defs) ≡ map field_form defs
forms [] = refl
forms (d ∷ ds) = ap (λ l. field_form d ∷ l) (forms ds)

module _ {g0 g : Graph} {prog : Prog} {guard : BoolId} (s : StructId) {old new : List Slot} {fields : List Shape} where
  pub allocated_stands : HeapStands g0 prog old → Keeps g0 g → HasBool g0.nodes guard → AreZeros g (map field_form (fields_of prog s)) fields → new ≡ old ++ slot_of_zeros guard s fields ∷ [] → HeapStands g prog new
  allocated_stands stands keeps there zeros is =
      let slot = slot_of_zeros guard s fields in
      subst (HeapStands g prog) (sym is) (HeapStands-push old slot (HeapStands-keeps keeps stands) (slot_stands slot (keeps.sorts guard.index BoolSort there) zeros))

  pub allocated : {r : Targets} → Keeps g0 g → HasBool g0.nodes guard → AreZeros g (map field_form (fields_of prog s)) fields → new ≡ old ++ slot_of_zeros guard s fields ∷ [] → r.slots.items ≡ (length old, guard) ∷ [] → IsAllocated g prog guard s old new r
  allocated {r} keeps there zeros is items =
      let slot = slot_of_zeros guard s fields in
      let there' : HasBool g.nodes guard = keeps.sorts guard.index BoolSort there in
      subst (λ l. IsAllocated g prog guard s old l r) (sym is) record {
        slot = slot;
        pushed = refl;
        guarded = refl;
        of_struct = refl;
        zeros = λ h more e. zeros.value h more e ∙ sym (forms (fields_of prog s));
        target = items;
        refers = refers_new old slot s guard r refl there' items;
      }

-- the one target of the reference to it
pub target_is : {items before : List (ℕ × BoolId)} {n m : ℕ} {guard : BoolId} → items ≡ before ++ (n, guard) ∷ [] → before ≡ [] → n ≡ m → items ≡ (m, guard) ∷ []
target_is {items} {before} {n} {m} {guard} is none same = subst (λ k. items ≡ (k, guard) ∷ []) same (subst (λ l. items ≡ l ++ (n, guard) ∷ []) none is)
