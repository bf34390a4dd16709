-- The input that a certificate lists, if it lists one of the program.
use Rattle.std.specs.Prelude.{ℕ, zero, suc, ◌^◌, ◌==◌, nat_lt, List, [], ◌∷◌, length, take, drop, slice_get, Option, Some, None, option_map, ℤ, pos, negsuc, if◌then◌else◌}
use Rattle.sk_base.specs.declared.bounds.Bounds.{Bounds}
use Rattle.sk_prog.specs.declared.ty.Elem.{Elem}
use Rattle.sk_prog.specs.declared.ty.Elem.TheVariants as elem
use Rattle.sk_prog.specs.declared.ty.Ty.{Ty}
use Rattle.sk_prog.specs.declared.ty.Ty.TheVariants as ty
use Rattle.sk_prog.specs.declared.value.Value.{Value}
use Rattle.sk_prog.specs.declared.value.Value.TheVariants as value
use Rattle.sk_prog.specs.declared.prog.ParamDef.{ParamDef}
use Rattle.sk_prog.specs.declared.prog.Fun.{Fun}
use Rattle.sk_prog.specs.declared.prog.Prog.{Prog}
use Rattle.sk_model.specs.declared.expanded.Input.{Input}
use Rattle.sk_model.specs.declared.expanded.Obligation.{Obligation}
use Rattle.sk_model.specs.Inputs.{fun_of}
use Rattle.sk_model.specs.Obligations.{obligations}
use Rattle.sk_cert.specs.declared.certificate.CertInput.{CertInput}

-- an item in front of items, if both are there
abbrev pub both : {A : Type 0} → Option A → Option (List A) → Option (List A)
both None rest = None
both (Some a) None = None
both (Some a) (Some items) = Some (a ∷ items)

-- Values

-- an int of an input is a number of so many bits
abbrev pub int_listed : ℕ → ℤ → Option Value
int_listed inbits (pos n) = if nat_lt n (2 ^ inbits) then Some (value.Int (pos n)) else None
int_listed inbits (negsuc n) = None

abbrev pub bit_listed : ℤ → Option Value
bit_listed (pos n) = if nat_lt n 2 then Some (value.Bit (n == 1)) else None
bit_listed (negsuc n) = None

abbrev pub elem_listed : ℕ → Elem → ℤ → Option Value
elem_listed inbits elem.Int s = int_listed inbits s
elem_listed inbits elem.Bit s = bit_listed s
elem_listed inbits (elem.Reference r) s = None

abbrev pub row_listed : ℕ → Elem → List ℤ → Option (List Value)
row_listed inbits e [] = Some []
row_listed inbits e (s ∷ ss) = both (elem_listed inbits e s) (row_listed inbits e ss)

-- an array of so many elements
abbrev pub array_listed : ℕ → Elem → ℕ → List ℤ → Option Value
array_listed inbits e n ss = if length ss == n then option_map value.Array (row_listed inbits e ss) else None

-- so many arrays of so many elements, and nothing behind them; how many arrays stands before the scalars
abbrev pub rows_listed : ℕ → Elem → ℕ → ℕ → List ℤ → Option (List Value)
rows_listed inbits e n zero [] = Some []
rows_listed inbits e n zero (s ∷ ss) = None
rows_listed inbits e n (suc m) ss = both (array_listed inbits e n (take n ss)) (rows_listed inbits e n m (drop n ss))

abbrev pub one_listed : ℕ → Elem → List ℤ → Option Value
one_listed inbits e [] = None
one_listed inbits e (s ∷ []) = elem_listed inbits e s
one_listed inbits e (s ∷ t ∷ ss) = None

-- the value of a type with these scalars, if there is one that an input may have
abbrev pub value_listed : ℕ → Ty → List ℤ → Option Value
value_listed inbits (ty.One e) ss = one_listed inbits e ss
value_listed inbits (ty.Array e n) ss = array_listed inbits e n ss
value_listed inbits (ty.Grid e n m) ss = option_map value.Array (rows_listed inbits e n m ss)

-- Inputs

-- a value for each parameter, and no other
abbrev pub args_listed : ℕ → List ParamDef → List (List ℤ) → Option (List Value)
args_listed inbits [] [] = Some []
args_listed inbits [] (a ∷ as') = None
args_listed inbits (p ∷ ps) [] = None
args_listed inbits (p ∷ ps) (a ∷ as') = both (value_listed inbits p.ty a) (args_listed inbits ps as')

abbrev pub input_of_fun : ℕ → CertInput → Option Fun → Option Input
input_of_fun inbits c None = None
input_of_fun inbits c (Some f) = option_map (λ args. record { obligation = c.obligation; args = args }) (args_listed inbits f.params c.args)

abbrev pub input_of_obligation : Prog → ℕ → CertInput → Option Obligation → Option Input
input_of_obligation prog inbits c None = None
input_of_obligation prog inbits c (Some o) = input_of_fun inbits c (slice_get prog.funs (fun_of o).index)

abbrev pub input_listed : Prog → Bounds → CertInput → Option Input
input_listed prog bounds c = input_of_obligation prog bounds.inbits c (slice_get (obligations prog) c.obligation)

-- the inputs that these list, if each lists one
abbrev pub all_listed : Prog → Bounds → List CertInput → Option (List Input)
all_listed prog bounds [] = Some []
all_listed prog bounds (c ∷ cs) = both (input_listed prog bounds c) (all_listed prog bounds cs)
