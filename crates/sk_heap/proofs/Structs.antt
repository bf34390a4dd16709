-- Structs and their fields, in the words of an index.
use Rattle.std.proofs.lemmas.Bool.{ltb-true, lt-ltb}
use Rattle.std.proofs.lemmas.Option.{none-some, slice_get_read, slice_get_within}
use Rattle.std.proofs.Common.{◌≡◌, ℕ, ◌<◌, true, true≢false, length, slice_get, get_or, Option, Some, None, IsTrue, refl, sym, ap, ◌∙◌, arith, map}
use Rattle.sk_arr.proofs.Values.{length_map}
use Rattle.sk_prog.specs.declared.ids.StructId.{StructId}
use Rattle.sk_prog.specs.declared.ty.Ty.{Ty}
use Rattle.sk_prog.specs.declared.prog.FieldDef.{FieldDef}
use Rattle.sk_prog.specs.declared.prog.StructDef.{StructDef}
use Rattle.sk_prog.specs.declared.prog.Prog.{Prog}
use Rattle.sk_prog.specs.Fits.{has_struct, has_field, field_in}
use Rattle.sk_heap.specs.Types.{type_in, fields_in, fields_of, field_types}
use Rattle.sk_heap.proofs.Heaps.{mapped_at}

pub struct_within : (prog : Prog) (s : StructId) → IsTrue (has_struct prog s) → s.index < length prog.structs
struct_within prog s h = ltb-true s.index (length prog.structs) h

pub fields_are : (prog : Prog) (s : StructId) (d : StructDef) → IsTrue (has_struct prog s) → d ≡ get_or prog.structs s.index d → d.fields ≡ fields_of prog s
fields_are prog s d h at = sym (ap fields_in (slice_get_read prog.structs (length prog.structs) s.index d refl (struct_within prog s h) at))

-- a struct with a field is there
pub struct_there : (prog : Prog) (s : StructId) (field : ℕ) → IsTrue (has_field prog s field) → IsTrue (has_struct prog s)
struct_there prog s field h = by (slice_get prog.structs s.index) refl
  where
    by : (o : Option StructDef) → slice_get prog.structs s.index ≡ o → IsTrue (has_struct prog s)
    by None e = absurd (true≢false (sym h ∙ ap (field_in field) e))
    by (Some d) e = lt-ltb s.index (length prog.structs) (slice_get_within prog.structs s.index d e)

pub field_within : (prog : Prog) (s : StructId) (field : ℕ) → IsTrue (has_field prog s field) → field < length (fields_of prog s)
field_within prog s field h = by (slice_get prog.structs s.index) h
  where
    by : (o : Option StructDef) → field_in field o ≡ true → field < length (fields_in o)
    by None e = absurd (true≢false (sym e))
    by (Some d) e = ltb-true field (length d.fields) e

pub type_is : (prog : Prog) (s : StructId) (field : ℕ) (d : FieldDef) → field < length (fields_of prog s) → d ≡ get_or (fields_of prog s) field d → slice_get (field_types prog s) field ≡ Some d.ty
type_is prog s field d l at = mapped_at type_in (fields_of prog s) field d (slice_get_read (fields_of prog s) (length (fields_of prog s)) field d refl l at)

-- a struct with a type at a place has the field
pub field_of_types : (prog : Prog) (s : StructId) (field : ℕ) (t : Ty) → slice_get (field_types prog s) field ≡ Some t → IsTrue (has_field prog s field)
field_of_types prog s field t at = by (slice_get prog.structs s.index) at
  where
    by : (o : Option StructDef) → slice_get (map type_in (fields_in o)) field ≡ Some t → field_in field o ≡ true
    by None e = absurd (none-some t e)
    by (Some d) e = lt-ltb field (length d.fields) (omega (arith, slice_get_within (map type_in d.fields) field t e, length_map type_in d.fields))

pub ruleset structs = (struct_within, fields_are, struct_there, field_within, type_is)
