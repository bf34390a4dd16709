-- Of how many bits the numbers are that make a choice or an input. A value of a parameter has a number for each of its
-- ints and bits, in order of their indexes.
use Rattle.std.specs.Prelude.{ℕ, ◌*◌, List, [], map, replicate, take, length, slice_get, Option, Some, None}
use Rattle.std.specs.List.{flat_map}
use Rattle.sk_prog.specs.declared.ty.Elem.{Elem}
use Rattle.sk_prog.specs.declared.ty.Elem.TheVariants as elem
use Rattle.sk_prog.specs.declared.ty.Ty.{Ty}
use Rattle.sk_prog.specs.declared.ty.Ty.TheVariants as ty
use Rattle.sk_prog.specs.declared.prog.ParamDef.{ParamDef}
use Rattle.sk_prog.specs.declared.prog.Fun.{Fun}
use Rattle.sk_prog.specs.declared.prog.Prog.{Prog}
use Rattle.sk_model.specs.declared.expanded.Site.{Site}
use Rattle.sk_model.specs.declared.expanded.Obligation.{Obligation}
use Rattle.sk_model.specs.Obligations.{obligations}
use Rattle.sk_model.specs.Inputs.{fun_of}
use Rattle.sk_oblig_queries.specs.Numbers.{bits_of_size}

-- a site's value is below its size
abbrev pub sites_widths : List Site → List ℕ
sites_widths sites = map (λ (s : Site). bits_of_size s.size) sites

-- an int has as many bits as integer inputs have, a bit has one; no input holds a reference
abbrev pub elem_width : ℕ → Elem → ℕ
elem_width inbits elem.Int = inbits
elem_width inbits elem.Bit = 1
elem_width inbits (elem.Reference s) = 0

-- how many numbers a value of a type has
abbrev pub numbers_of : Ty → ℕ
numbers_of (ty.One e) = 1
numbers_of (ty.Array e n) = n
numbers_of (ty.Grid e n m) = n * m

abbrev pub elem_of : Ty → Elem
elem_of (ty.One e) = e
elem_of (ty.Array e n) = e
elem_of (ty.Grid e n m) = e

abbrev pub ty_widths : ℕ → Ty → List ℕ
ty_widths inbits t = replicate (numbers_of t) (elem_width inbits (elem_of t))

abbrev pub params_widths : ℕ → List ParamDef → List ℕ
params_widths inbits params = flat_map (λ (p : ParamDef). ty_widths inbits p.ty) params

abbrev pub params_of_fun : Option Fun → List ParamDef
params_of_fun (Some f) = f.params
params_of_fun None = []

-- what the function of an obligation takes
abbrev pub params_of : Prog → Obligation → List ParamDef
params_of prog o = params_of_fun (slice_get prog.funs (fun_of o).index)

-- and nothing where there is no obligation
abbrev pub params_if : Prog → Option Obligation → List ParamDef
params_if prog (Some o) = params_of prog o
params_if prog None = []

-- what the function takes of the obligation with a number
abbrev pub params_at : Prog → ℕ → List ParamDef
params_at prog o = params_if prog (slice_get (obligations prog) o)

-- the inputs of some obligations, one after another
abbrev pub obligations_widths : ℕ → Prog → List Obligation → List ℕ
obligations_widths inbits prog os = flat_map (λ (o : Obligation). params_widths inbits (params_of prog o)) os

-- how many numbers the inputs have of the obligations before the one with a number
abbrev pub numbers_before : ℕ → Prog → ℕ → ℕ
numbers_before inbits prog o = length (obligations_widths inbits prog (take o (obligations prog)))
