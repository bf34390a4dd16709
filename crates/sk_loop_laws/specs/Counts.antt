-- How many inputs a program has.
use Rattle.std.specs.Prelude.{ℕ, ◌+◌, ◌*◌, ◌^◌, List, [], ◌∷◌, Option, Some, None}
use Rattle.sk_prog.specs.declared.ids.FunId.{FunId}
use Rattle.sk_prog.specs.declared.ty.Elem.{Elem}
use Rattle.sk_prog.specs.declared.ty.Elem.TheVariants as elem
use Rattle.sk_prog.specs.declared.ty.Ty.{Ty}
use Rattle.sk_prog.specs.declared.ty.Ty.TheVariants as ty
use Rattle.sk_prog.specs.declared.prog.FunKind.{FunKind}
use Rattle.sk_prog.specs.declared.prog.FunKind.TheVariants as kind
use Rattle.sk_prog.specs.declared.prog.ParamDef.{ParamDef}
use Rattle.sk_prog.specs.declared.prog.Fun.{Fun}

-- how many values of a type an input may have; no input holds a reference
abbrev pub elem_size : ℕ → Elem → ℕ
elem_size inbits elem.Int = 2 ^ inbits
elem_size inbits elem.Bit = 2
elem_size inbits (elem.Reference s) = 0

abbrev pub ty_size : ℕ → Ty → ℕ
ty_size inbits (ty.One e) = elem_size inbits e
ty_size inbits (ty.Array e n) = elem_size inbits e ^ n
ty_size inbits (ty.Grid e n m) = (elem_size inbits e ^ n) ^ m

-- how many lists of arguments there are
abbrev pub args_count : ℕ → List ParamDef → ℕ
args_count inbits [] = 1
args_count inbits (p ∷ ps) = ty_size inbits p.ty * args_count inbits ps

-- the inputs of a function of this kind as a harness, if it has so many lists of arguments
abbrev pub harness_inputs : FunKind → ℕ → ℕ
harness_inputs kind.Harness n = n
harness_inputs _ n = 0

-- and those for which it is to do what another does
abbrev pub reference_inputs : Option FunId → ℕ → ℕ
reference_inputs (Some g) n = n
reference_inputs None n = 0

-- the inputs of the obligations of a function
abbrev pub fun_inputs : ℕ → Fun → ℕ
fun_inputs inbits f = harness_inputs f.kind (args_count inbits f.params) + reference_inputs f.implements (args_count inbits f.params)

-- the inputs of the obligations of all functions
abbrev pub inputs_count : ℕ → List Fun → ℕ
inputs_count inbits [] = 0
inputs_count inbits (f ∷ fs) = fun_inputs inbits f + inputs_count inbits fs
