-- The law of programs with algebraic types: a run of a tagged one never strays, and is the same with records by their variants.
use Rattle.std.specs.Prelude.{◌≡◌, ℕ, List, slice_get, not, IsTrue, Some}
use Rattle.sk_base.specs.declared.bounds.Bounds.{Bounds}
use Rattle.sk_prog.specs.declared.ids.FunId.{FunId}
use Rattle.sk_prog.specs.declared.ty.Ty.TheVariants as ty
use Rattle.sk_prog.specs.declared.ty.Elem.TheVariants as elem
use Rattle.sk_prog.specs.declared.value.Value.{Value}
use Rattle.sk_prog.specs.declared.prog.FieldDef.{FieldDef}
use Rattle.sk_prog.specs.declared.prog.StructDef.{StructDef}
use Rattle.sk_prog.specs.declared.prog.Fun.{Fun}
use Rattle.sk_prog.specs.declared.prog.Prog.{Prog}
use Rattle.sk_types_rules.specs.Types.{speaks_of_records}
use Rattle.sk_types_rules.specs.WellTyped.{WellTyped}
use Rattle.sk_model.specs.Run.{run}
use Rattle.sk_adt.specs.declared.algebraic.Algebraic.{Algebraic}
use Rattle.sk_adt_tags.specs.Tags.{type_named, Tagged}
use Rattle.sk_adt_records.specs.Run.{Ends, run_by_variants}

-- The tag of each struct that the types name, its first field, is an integer, as the lowering makes it. What the other fields are called, and how many there
-- are, is not asked: a field that stands behind those of all variants is every record's.
abbrev pub TagsAreIntegers : List Algebraic → Prog → Type 0
TagsAreIntegers types prog = (n : ℕ) (d : StructDef) (a : Algebraic) (tag : FieldDef) → slice_get prog.structs n ≡ Some d → type_named types d.name ≡ Some a → slice_get d.fields 0 ≡ Some tag → tag.ty ≡ ty.One elem.Int

-- What is asked of a program and of one of its functions: it is typed and tagged, and the function's parameters and result hold no references. Each number in
-- a typed program is a word, so no number of a variant that is set or asked for wraps. That it has no sites is not asked: what is open fails in both runs.
pub record IsRunnable (types : List Algebraic) (prog : Prog) (f : FunId) (bounds : Bounds) : Type 0 where
  pub typed : WellTyped prog bounds
  pub tags : TagsAreIntegers types prog
  pub tagged : Tagged types prog
  pub plain : (fun : Fun) → slice_get prog.funs f.index ≡ Some fun → IsTrue (not (speaks_of_records fun.params fun.result))

-- The run by variants never strays, and ends as the run does, spans included.
abbrev pub TaggedRunsKeepVariants : Type 0
TaggedRunsKeepVariants = (types : List Algebraic) (prog : Prog) (f : FunId) (args : List Value) (bounds : Bounds)
    → IsRunnable types prog f bounds → run_by_variants prog types f args bounds ≡ Ends (run prog f args bounds)
