-- Slots of structs, shapes of types, and which heaps stand in a graph.
use Rattle.std.specs.Prelude.{◌≡◌, ℕ, ◌==◌, Bool, false, List, length, Option, Some, None, slice_get}
use Rattle.sk_dag.specs.declared.shape.Shape.{Shape}
use Rattle.sk_dag.specs.declared.shape.Shape.TheVariants.{Reference}
use Rattle.sk_dag.specs.declared.shape.Targets.{Targets}
use Rattle.sk_dag.specs.Graph.{Graph, HasBool}
use Rattle.sk_arr.specs.Shapes.{blank, Stands, AllStand, SlotsPass}
use Rattle.sk_prog.specs.declared.ids.StructId.{StructId}
use Rattle.sk_prog.specs.declared.ty.Elem.{Elem}
use Rattle.sk_prog.specs.declared.ty.Elem.TheVariants as elem
use Rattle.sk_prog.specs.declared.ty.Ty.{Ty}
use Rattle.sk_prog.specs.declared.prog.Prog.{Prog}
use Rattle.sk_heap.specs.declared.slot.Slot.{Slot}
use Rattle.sk_heap.specs.Types.{form_of, elem_of, field_types}

abbrev pub is_struct : StructId → Option Slot → Bool
is_struct s None = false
is_struct s (Some slot) = slot.of.index == s.index

-- whether the slot with this number is there and is one of the struct
abbrev pub is_of : List Slot → StructId → ℕ → Bool
is_of heap s n = is_struct s (slice_get heap n)

-- whether a value of this type may refer to the slot: a reference to one of its struct
abbrev pub may_name : List Slot → Elem → ℕ → Bool
may_name heap elem.Bit n = false
may_name heap elem.Int n = false
may_name heap (elem.Reference s) n = is_of heap s n

-- the shape is of the type: it has its form, and each slot that it names is of the struct to which the type refers
pub record IsOfType (heap : List Slot) (t : Ty) (r : Shape) : Type 0 where
  pub form : blank r ≡ form_of t
  pub slots : SlotsPass (may_name heap (elem_of t)) r

-- the shape is of the type of this field of the struct
pub record IsOfField (heap : List Slot) (prog : Prog) (s : StructId) (field : ℕ) (r : Shape) : Type 0 where
  pub typed : (t : Ty) → slice_get (field_types prog s) field ≡ Some t → IsOfType heap t r

-- the slot has a shape for each field of its struct, which is of its type
pub record SlotStands (g : Graph) (prog : Prog) (heap : List Slot) (slot : Slot) : Type 0 where
  pub guard : HasBool g.nodes slot.guard
  pub fields : AllStand g slot.fields
  pub whole : length slot.fields ≡ length (field_types prog slot.of)
  pub typed : (field : ℕ) (r : Shape) → slice_get slot.fields field ≡ Some r → IsOfField heap prog slot.of field r

-- so of each slot
pub record HeapStands (g : Graph) (prog : Prog) (heap : List Slot) : Type 0 where
  pub each : (n : ℕ) (slot : Slot) → slice_get heap n ≡ Some slot → SlotStands g prog heap slot

-- the targets exclude each other, and are slots of the struct
pub record RefersTo (g : Graph) (heap : List Slot) (s : StructId) (target : Targets) : Type 0 where
  pub stands : Stands g (Reference target)
  pub slots : SlotsPass (is_of heap s) (Reference target)
