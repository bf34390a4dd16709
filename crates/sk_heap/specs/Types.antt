-- The forms of the types, and the fields of the structs.
use Rattle.std.specs.Prelude.{pos, false, List, [], map, replicate, Option, Some, None, slice_get}
use Rattle.sk_dag.specs.declared.shape.Seen.{Seen}
use Rattle.sk_dag.specs.declared.shape.Seen.TheVariants.{Bit as SeenBit, Int as SeenInt, Slot as SeenSlot, Array as SeenArray}
use Rattle.sk_prog.specs.declared.ids.StructId.{StructId}
use Rattle.sk_prog.specs.declared.ty.Elem.{Elem}
use Rattle.sk_prog.specs.declared.ty.Elem.TheVariants as elem
use Rattle.sk_prog.specs.declared.ty.Ty.{Ty}
use Rattle.sk_prog.specs.declared.ty.Ty.TheVariants as ty
use Rattle.sk_prog.specs.declared.prog.FieldDef.{FieldDef}
use Rattle.sk_prog.specs.declared.prog.StructDef.{StructDef}
use Rattle.sk_prog.specs.declared.prog.Prog.{Prog}

abbrev pub form_of_elem : Elem → Seen
form_of_elem elem.Bit = SeenBit false
form_of_elem elem.Int = SeenInt (pos 0)
form_of_elem (elem.Reference s) = SeenSlot None

-- The form of the shapes of a type's values: of an array, as many as it is long. It is also what the zero of the type
-- is seen as: false, 0, null, or an array of these.
abbrev pub form_of : Ty → Seen
form_of (ty.One e) = form_of_elem e
form_of (ty.Array e n) = SeenArray (replicate n (form_of_elem e))
form_of (ty.Grid e n m) = SeenArray (replicate m (SeenArray (replicate n (form_of_elem e))))

-- the type of the single values in it
abbrev pub elem_of : Ty → Elem
elem_of (ty.One e) = e
elem_of (ty.Array e n) = e
elem_of (ty.Grid e n m) = e

abbrev pub fields_in : Option StructDef → List FieldDef
fields_in None = []
fields_in (Some d) = d.fields

-- the fields of a struct, none where it is not there
abbrev pub fields_of : Prog → StructId → List FieldDef
fields_of prog s = fields_in (slice_get prog.structs s.index)

abbrev pub type_in : FieldDef → Ty
type_in d = d.ty

-- the form of a field
abbrev pub field_form : FieldDef → Seen
field_form d = form_of d.ty

abbrev pub field_types : Prog → StructId → List Ty
field_types prog s = map type_in (fields_of prog s)
