-- The arguments of a function that words spell, one word for each parameter, or why they spell none.
use Rattle.std.specs.Prelude.{ℕ, suc, ◌==◌, Bool, true, false, ◌||◌, List, [], ◌∷◌, length, Option, Some, None, Result, Ok, Err, if◌then◌else◌}
use Rattle.std.specs.List.{list_any}
use Rattle.sk_base.specs.declared.bounds.Bounds.{Bounds}
use Rattle.sk_prog.specs.declared.ty.Elem.{Elem}
use Rattle.sk_prog.specs.declared.ty.Elem.TheVariants as elem
use Rattle.sk_prog.specs.declared.ty.Ty.{Ty}
use Rattle.sk_prog.specs.declared.ty.Ty.TheVariants as ty
use Rattle.sk_prog.specs.declared.value.Value.{Value}
use Rattle.sk_prog.specs.declared.prog.ParamDef.{ParamDef}
use Rattle.sk_prog.specs.declared.prog.Fun.{Fun}
use Rattle.sk_opts.specs.SpeltValues.{spells_value}
use Rattle.sk_exec_values.specs.declared.fault.ArgumentFault.{ArgumentFault}
use Rattle.sk_exec_values.specs.declared.fault.ArgumentFault.TheVariants as fault

-- References

abbrev pub is_reference : Elem → Bool
is_reference elem.Bit = false
is_reference elem.Int = false
is_reference (elem.Reference s) = true

-- values of the type hold references
abbrev pub type_refers : Ty → Bool
type_refers (ty.One e) = is_reference e
type_refers (ty.Array e n) = is_reference e
type_refers (ty.Grid e n m) = is_reference e

abbrev pub result_refers : Option Ty → Bool
result_refers None = false
result_refers (Some t) = type_refers t

-- the type of a parameter or of the result holds a reference
abbrev pub refers : Fun → Bool
refers f = list_any (λ param. type_refers param.ty) f.params || result_refers f.result

-- Values

-- the value of the word with this index in front of the values behind it; where it spells none, the word's fault, and else
-- the fault behind it, where there is one
abbrev pub first_of : ℕ → Option Value → Result (List Value) ArgumentFault → Result (List Value) ArgumentFault
first_of index None behind = Err (fault.Value index)
first_of index (Some v) (Ok vs) = Ok (v ∷ vs)
first_of index (Some v) (Err f) = Err f

-- the values that the words spell, each of its parameter's type; else the first word that spells none, counted from this
-- index on
abbrev pub values_from : ℕ → Bounds → List ParamDef → List (List ℕ) → Result (List Value) ArgumentFault
values_from index bounds [] words = Ok []
values_from index bounds (p ∷ ps) [] = Ok []
values_from index bounds (p ∷ ps) (w ∷ ws) = first_of index (spells_value bounds p.ty w) (values_from (suc index) bounds ps ws)

-- the arguments of a function; there are none where its signature holds a reference, else where there are not as many
-- words as parameters, else where a word spells no value of its parameter's type
abbrev pub arguments : Bounds → Fun → List (List ℕ) → Result (List Value) ArgumentFault
arguments bounds f words =
    if refers f then Err fault.References
    else (if length words == length f.params then values_from 0 bounds f.params words
    else Err fault.Count)
