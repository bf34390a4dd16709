-- What the walks over the targets of a reference have answered.
use Rattle.std.specs.Prelude.{◌≡◌, ℕ, ◌==◌, Bool, true, false, ◌&&◌, IsTrue, List, length, map, Option, Some}
use Rattle.sk_dag.specs.declared.env.Env.{Env}
use Rattle.sk_dag.specs.declared.node.BoolId.{BoolId}
use Rattle.sk_dag.specs.declared.shape.Shape.{Shape}
use Rattle.sk_dag.specs.declared.shape.Seen.{Seen}
use Rattle.sk_dag.specs.declared.shape.Targets.{Targets}
use Rattle.sk_dag.specs.Graph.{Graph, Grows}
use Rattle.sk_dag.specs.Eval.{bool_value}
use Rattle.sk_dag.specs.EvalShape.{shape_value, held_slot}
use Rattle.sk_arr.specs.Held.{held_in, is_among}
use Rattle.sk_arr.specs.Shapes.{blank, Stands, SlotsPass}
use Rattle.sk_arr.specs.Answers.{IsChoice}
use Rattle.sk_prog.specs.declared.ids.StructId.{StructId}
use Rattle.sk_heap.specs.declared.slot.Slot.{Slot}
use Rattle.sk_heap.specs.Fields.{field_at, field_value, is_named}

-- a shape of this form, which is the field of the slot whose target holds, where one does
pub record IsReadOf (g : Graph) (heap : List Slot) (targets : List (ℕ × BoolId)) (form : Seen) (field : ℕ) (r : Shape) : Type 0 where
  pub stands : Stands g r
  pub formed : blank r ≡ form
  pub named : (test : ℕ → Bool) → ((n : ℕ) (old : Shape) → IsTrue (is_named n targets) → field_at heap n field ≡ Some old → SlotsPass test old) → SlotsPass test r
  pub value : (h : Graph) → Grows g h → (e : Env) (n : ℕ) → held_slot h e targets ≡ Some n → field_value h e heap n field ≡ Some (shape_value h e r)

-- the value where the guard holds and a target at this slot does, and else the field as it was
pub record IsRewritten (g : Graph) (guard : BoolId) (heap : List Slot) (target : Targets) (n field : ℕ) (value r : Shape) : Type 0 where
  pub old : Shape
  pub found : field_at heap n field ≡ Some old
  pub cond : BoolId
  pub chosen : IsChoice g cond value old r
  pub holds : (h : Graph) → Grows g h → (e : Env) → bool_value h e cond ≡ (bool_value h e guard && is_among n (held_in h e target.slots.items))

-- the field is there and is rewritten
pub record HasWritten (g : Graph) (guard : BoolId) (heap : List Slot) (target : Targets) (n field : ℕ) (value : Shape) (new : Option Shape) : Type 0 where
  pub shape : Shape
  pub found : new ≡ Some shape
  pub is : IsRewritten g guard heap target n field value shape

-- what a write leaves of a slot: its guard, its struct, and how many fields it has
abbrev pub frame : Slot → BoolId × StructId × ℕ
frame slot = (slot.guard, slot.of, length slot.fields)

-- in the slots of these targets the field is rewritten, and all other fields are those that they were
pub record AreWritten (g : Graph) (guard : BoolId) (target : Targets) (targets : List (ℕ × BoolId)) (field : ℕ) (value : Shape) (old new : List Slot) : Type 0 where
  pub frames : map frame new ≡ map frame old
  pub kept : (n k : ℕ) → (is_named n targets && (k == field)) ≡ false → field_at new n k ≡ field_at old n k
  pub written : (n : ℕ) → is_named n targets ≡ true → HasWritten g guard old target n field value (field_at new n field)
