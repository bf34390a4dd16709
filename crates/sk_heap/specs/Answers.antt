-- What the calls of the heap answer, in every graph that the graph of the answer grows to, in every environment.
use Rattle.std.specs.Prelude.{◌≡◌, ℕ, ◌==◌, Bool, false, ◌&&◌, IsTrue, List, [], ◌∷◌, ◌++◌, length, map, Option, Some, None, is_none, if◌then◌else◌}
use Rattle.sk_dag.specs.declared.env.Env.{Env}
use Rattle.sk_dag.specs.declared.node.BoolId.{BoolId}
use Rattle.sk_dag.specs.declared.shape.Shape.{Shape}
use Rattle.sk_dag.specs.declared.shape.Targets.{Targets}
use Rattle.sk_dag.specs.Graph.{Graph, Grows, HasBool}
use Rattle.sk_dag.specs.Eval.{bool_value}
use Rattle.sk_dag.specs.EvalShape.{shape_value, held_slot}
use Rattle.sk_arr.specs.Shapes.{Stands}
use Rattle.sk_arr.specs.Answers.{shapes_value}
use Rattle.sk_prog.specs.declared.ids.StructId.{StructId}
use Rattle.sk_prog.specs.declared.prog.Prog.{Prog}
use Rattle.sk_prog.specs.Fits.{has_field}
use Rattle.sk_heap.specs.declared.slot.Slot.{Slot}
use Rattle.sk_heap.specs.Types.{form_of, field_types}
use Rattle.sk_heap.specs.Fields.{field_value}
use Rattle.sk_heap.specs.Heaps.{IsOfField, HeapStands, RefersTo}

abbrev pub guard_of : Slot → BoolId
guard_of slot = slot.guard

abbrev pub struct_of : Slot → StructId
struct_of slot = slot.of

-- the slot of the target that holds, where one does
abbrev pub slot_of : Graph → Env → Targets → Option ℕ
slot_of g e target = held_slot g e target.slots.items

-- r holds exactly where no target does
pub record IsNull (g : Graph) (target : Targets) (r : BoolId) : Type 0 where
  pub there : HasBool g.nodes r
  pub value : (h : Graph) → Grows g h → (e : Env) → bool_value h e r ≡ is_none (slot_of h e target)

-- The slots are the old ones and one more, of this struct, under this guard, in which each field is zero. The answer is
-- the reference that is at this slot where the guard holds, and else null.
pub record IsAllocated (g : Graph) (prog : Prog) (guard : BoolId) (s : StructId) (old new : List Slot) (r : Targets) : Type 0 where
  pub slot : Slot
  pub pushed : new ≡ old ++ slot ∷ []
  pub guarded : guard_of slot ≡ guard
  pub of_struct : struct_of slot ≡ s
  pub zeros : (h : Graph) → Grows g h → (e : Env) → shapes_value h e slot.fields ≡ map form_of (field_types prog s)
  pub target : r.slots.items ≡ (length old, guard) ∷ []
  pub refers : RefersTo g new s r

-- what a read of a field answers: a shape of the field's type, and whether the reference is null. Where it is not, the
-- shape is the field of the slot whose target holds; where it is, it is left open.
pub record IsFieldRead (g : Graph) (heap : List Slot) (prog : Prog) (s : StructId) (target : Targets) (field : ℕ) (r : Shape) (null : BoolId) : Type 0 where
  pub stands : Stands g r
  pub typed : IsOfField heap prog s field r
  pub is_null : IsNull g target null
  pub value : (h : Graph) → Grows g h → (e : Env) (n : ℕ) → slot_of h e target ≡ Some n → field_value h e heap n field ≡ Some (shape_value h e r)

-- the heap stands and has this field in each slot to which the reference may refer, and the value is of its type
pub record MayWrite (g : Graph) (prog : Prog) (heap : List Slot) (s : StructId) (target : Targets) (field : ℕ) (value : Shape) : Type 0 where
  pub heap_stands : HeapStands g prog heap
  pub there : IsTrue (has_field prog s field)
  pub refers : RefersTo g heap s target
  pub value_stands : Stands g value
  pub typed : IsOfField heap prog s field value

-- so for some struct of some program
pub record CanBeWritten (g : Graph) (heap : List Slot) (target : Targets) (field : ℕ) (value : Shape) : Type 0 where
  pub prog : Prog
  pub of_struct : StructId
  pub may : MayWrite g prog heap of_struct target field value

abbrev pub is_at : Option ℕ → ℕ → Bool
is_at None n = false
is_at (Some m) n = m == n

-- whether a write under this guard goes to this field of the slot with the number n
abbrev pub is_written : Graph → Env → BoolId → Targets → ℕ → ℕ → ℕ → Bool
is_written g e guard target field n k = bool_value g e guard && (is_at (slot_of g e target) n && (k == field))

-- Guards and structs stay. A field is the value where the guard holds and it is this field of the slot whose target
-- holds, and in every other case what it was.
pub record IsFieldWritten (g : Graph) (guard : BoolId) (target : Targets) (field : ℕ) (value : Shape) (old new : List Slot) : Type 0 where
  pub guards : map guard_of new ≡ map guard_of old
  pub structs : map struct_of new ≡ map struct_of old
  pub fields : (h : Graph) → Grows g h → (e : Env) (n k : ℕ) → field_value h e new n k ≡ (if is_written h e guard target field n k then Some (shape_value h e value) else field_value h e old n k)
