-- Types that have elements, however deep: each length that they name is 1 or more. Types that are written have.
use Rattle.std.specs.Prelude.{◌≡◌, ◌≤◌, ℕ, List, Option, Some, None, slice_get}
use Rattle.sk_prog.specs.declared.ty.Ty.{Ty}
use Rattle.sk_prog.specs.declared.ty.Ty.TheVariants as ty
use Rattle.sk_prog.specs.declared.prog.FieldDef.{FieldDef}
use Rattle.sk_prog.specs.declared.prog.ParamDef.{ParamDef}
use Rattle.sk_prog.specs.declared.prog.StructDef.{StructDef}
use Rattle.sk_types_rules.specs.declared.scope.Variable.{Variable}
use Rattle.sk_types_rules.specs.Scope.{Signature}

abbrev pub Sized : Ty → Type 0
Sized (ty.One a) = Unit {0}
Sized (ty.Array a n) = 1 ≤ n
Sized (ty.Grid a n m) = (1 ≤ n) × (1 ≤ m)

abbrev pub AnySized : Option Ty → Type 0
AnySized None = Unit {0}
AnySized (Some t) = Sized t

-- so are the types of all variables in scope
abbrev pub SizedScope : List Variable → Type 0
SizedScope scope = (i : ℕ) (v : Variable) → slice_get scope i ≡ Some v → Sized v.ty

-- those of all fields of a struct
abbrev pub SizedFields : StructDef → Type 0
SizedFields d = (i : ℕ) (f : FieldDef) → slice_get d.fields i ≡ Some f → Sized f.ty

abbrev pub SizedStructs : List StructDef → Type 0
SizedStructs structs = (i : ℕ) (d : StructDef) → slice_get structs i ≡ Some d → SizedFields d

-- those of the parameters and of the result of a function
pub record SizedSignature (s : Signature) : Type 0 where
  pub params : (i : ℕ) (d : ParamDef) → slice_get s.params i ≡ Some d → Sized d.ty
  pub result : AnySized s.result

abbrev pub SizedFuns : List Signature → Type 0
SizedFuns funs = (i : ℕ) (s : Signature) → slice_get funs i ≡ Some s → SizedSignature s
