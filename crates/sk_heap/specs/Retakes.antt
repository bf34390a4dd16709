-- Slots that are taken once more: by allocations of the same struct that exclude each other.
use Rattle.std.specs.Prelude.{◌≡◌, ℕ, ◌||◌, List, [], ◌∷◌, length, map, Some, slice_get, slice_set, if◌then◌else◌}
use Rattle.sk_dag.specs.declared.env.Env.{Env}
use Rattle.sk_dag.specs.declared.node.BoolId.{BoolId}
use Rattle.sk_dag.specs.declared.shape.Shape.{Shape}
use Rattle.sk_dag.specs.declared.shape.Targets.{Targets}
use Rattle.sk_dag.specs.Graph.{Graph, Grows, HasBool}
use Rattle.sk_dag.specs.Eval.{bool_value}
use Rattle.sk_arr.specs.Answers.{shapes_value, IsChoice}
use Rattle.sk_prog.specs.declared.ids.StructId.{StructId}
use Rattle.sk_prog.specs.declared.prog.Prog.{Prog}
use Rattle.sk_heap.specs.declared.slot.Slot.{Slot}
use Rattle.sk_heap.specs.Types.{form_of, field_form, fields_of, field_types}
use Rattle.sk_heap.specs.Zeros.{AreZeros}
use Rattle.sk_heap.specs.Heaps.{RefersTo}
use Rattle.sk_heap.specs.Answers.{guard_of, struct_of}

-- of the two shapes at this place the first where the condition holds, and else the second
pub record IsChosenAt (g : Graph) (c : BoolId) (list others : List Shape) (i : ℕ) (r : Shape) : Type 0 where
  pub first : Shape
  pub second : Shape
  pub at_first : slice_get list i ≡ Some first
  pub at_second : slice_get others i ≡ Some second
  pub choice : IsChoice g c first second r

-- so at each place
pub record AreChosen (g : Graph) (c : BoolId) (list others made : List Shape) : Type 0 where
  pub long : length made ≡ length list
  pub each : (i : ℕ) (r : Shape) → slice_get made i ≡ Some r → IsChosenAt g c list others i r

-- A slot of the struct in place of another one. It is one where that one was or the guard holds. Each field is 0 where the
-- guard holds, and else what it was.
pub record IsRefilled (g : Graph) (prog : Prog) (guard : BoolId) (s : StructId) (was slot : Slot) : Type 0 where
  pub of_struct : struct_of slot ≡ s
  pub there : HasBool g.nodes (guard_of slot)
  pub guarded : (h : Graph) → Grows g h → (e : Env) → bool_value h e (guard_of slot) ≡ (bool_value h e (guard_of was) || bool_value h e guard)
  pub zeros : List Shape
  pub are_zeros : AreZeros g (map field_form (fields_of prog s)) zeros
  pub fields : AreChosen g guard zeros was.fields slot.fields

-- so of the slot at this place
pub record IsRefilledAt (g : Graph) (prog : Prog) (guard : BoolId) (s : StructId) (place : ℕ) (heap : List Slot) (slot : Slot) : Type 0 where
  pub was : Slot
  pub found : slice_get heap place ≡ Some was
  pub refilled : IsRefilled g prog guard s was slot

-- The slots are the old ones, but for the one at this place, which is of the struct and is one where it was or the guard
-- holds. Its fields are zero where the guard holds, and else what they were. The answer is the reference that is at this
-- slot where the guard holds, and else null.
pub record IsRetaken (g : Graph) (prog : Prog) (guard : BoolId) (s : StructId) (place : ℕ) (old new : List Slot) (r : Targets) : Type 0 where
  pub was : Slot
  pub slot : Slot
  pub found : slice_get old place ≡ Some was
  pub put : new ≡ slice_set old place slot
  pub was_struct : struct_of was ≡ s
  pub of_struct : struct_of slot ≡ s
  pub guarded : (h : Graph) → Grows g h → (e : Env) → bool_value h e (guard_of slot) ≡ (bool_value h e (guard_of was) || bool_value h e guard)
  pub fields : (h : Graph) → Grows g h → (e : Env) → shapes_value h e slot.fields ≡ (if bool_value h e guard then map form_of (field_types prog s) else shapes_value h e was.fields)
  pub target : r.slots.items ≡ (place, guard) ∷ []
  pub refers : RefersTo g new s r
