-- Which slots a shape names that a field may hold.
use Rattle.std.specs.Prelude.{◌≡◌, ℕ, Bool, false, List, Some, IsTrue, slice_get}
use Rattle.sk_dag.specs.declared.shape.Shape.{Shape}
use Rattle.sk_arr.specs.Shapes.{blank, SlotsPass}
use Rattle.sk_prog.specs.declared.ids.StructId.{StructId}
use Rattle.sk_prog.specs.declared.ty.Elem.{Elem}
use Rattle.sk_prog.specs.declared.ty.Elem.TheVariants as elem
use Rattle.sk_prog.specs.declared.ty.Ty.{Ty}
use Rattle.sk_prog.specs.declared.prog.Prog.{Prog}
use Rattle.sk_prog.specs.Fits.{has_field}
use Rattle.sk_heap.specs.Types.{elem_of, form_of, field_types}
use Rattle.sk_sym_steps.specs.Steps.{is_kind}

-- whether a value of this type may refer to the slot with this number, by the structs of the slots
abbrev pub may_name_kind : List StructId → Elem → ℕ → Bool
may_name_kind structs elem.Bit n = false
may_name_kind structs elem.Int n = false
may_name_kind structs (elem.Reference s) n = is_kind structs s n

-- the struct has the field, whose single values are of this type
pub record IsFieldElem (prog : Prog) (s : StructId) (field : ℕ) (t : Elem) : Type 0 where
  pub there : IsTrue (has_field prog s field)
  pub typed : (u : Ty) → slice_get (field_types prog s) field ≡ Some u → elem_of u ≡ t

-- the field may refer to each slot that the shape names
pub record MayHold (prog : Prog) (structs : List StructId) (s : StructId) (field : ℕ) (r : Shape) : Type 0 where
  pub elem : Elem
  pub is : IsFieldElem prog s field elem
  pub named : SlotsPass (may_name_kind structs elem) r

-- the shape is of the form of the field's values
pub record IsFieldForm (prog : Prog) (s : StructId) (field : ℕ) (r : Shape) : Type 0 where
  pub typed : (t : Ty) → slice_get (field_types prog s) field ≡ Some t → blank r ≡ form_of t

-- both
pub record FitsField (prog : Prog) (structs : List StructId) (s : StructId) (field : ℕ) (r : Shape) : Type 0 where
  pub may : MayHold prog structs s field r
  pub form : IsFieldForm prog s field r
