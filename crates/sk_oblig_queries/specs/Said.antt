-- The choice, and the input of an obligation, that numbers say. A value takes as many from the front as it has; those that
-- are wanting are 0.
use Rattle.std.specs.Prelude.{ℕ, zero, suc, ◌==◌, pos, Bool, List, [], ◌∷◌, drop, slice_index_or}
use Rattle.sk_prog.specs.declared.ty.Elem.{Elem}
use Rattle.sk_prog.specs.declared.ty.Elem.TheVariants as elem
use Rattle.sk_prog.specs.declared.ty.Ty.{Ty}
use Rattle.sk_prog.specs.declared.ty.Ty.TheVariants as ty
use Rattle.sk_prog.specs.declared.value.Value.{Value}
use Rattle.sk_prog.specs.declared.value.Value.TheVariants as value
use Rattle.sk_prog.specs.declared.prog.ParamDef.{ParamDef}
use Rattle.sk_prog.specs.declared.prog.Prog.{Prog}
use Rattle.sk_model.specs.declared.expanded.Site.{Site}
use Rattle.sk_model.specs.declared.expanded.Choice.{Choice}
use Rattle.sk_model.specs.declared.expanded.Input.{Input}
use Rattle.sk_oblig_queries.specs.Numbers.{numbers_said}
use Rattle.sk_oblig_queries.specs.Widths.{sites_widths, numbers_of, params_at}

-- the bits of all sites in order say a number for each
abbrev pub choice_said : List Site → List Bool → Choice
choice_said sites bits = record { values = numbers_said (sites_widths sites) bits }

abbrev pub first_of : List ℕ → ℕ
first_of numbers = slice_index_or numbers 0 0

abbrev pub elem_said : Elem → ℕ → Value
elem_said elem.Int n = value.Int (pos n)
elem_said elem.Bit n = value.Bit (n == 1)
elem_said (elem.Reference s) n = value.Null

-- so many elements
abbrev pub row_said : Elem → ℕ → List ℕ → List Value
row_said e zero numbers = []
row_said e (suc n) numbers = elem_said e (first_of numbers) ∷ row_said e n (drop 1 numbers)

-- so many arrays of so many elements; how many arrays stands last
abbrev pub rows_said : Elem → ℕ → ℕ → List ℕ → List Value
rows_said e n zero numbers = []
rows_said e n (suc m) numbers = value.Array (row_said e n numbers) ∷ rows_said e n m (drop n numbers)

abbrev pub value_said : Ty → List ℕ → Value
value_said (ty.One e) numbers = elem_said e (first_of numbers)
value_said (ty.Array e n) numbers = value.Array (row_said e n numbers)
value_said (ty.Grid e n m) numbers = value.Array (rows_said e n m numbers)

abbrev pub args_said : List ParamDef → List ℕ → List Value
args_said [] numbers = []
args_said (p ∷ ps) numbers = value_said p.ty numbers ∷ args_said ps (drop (numbers_of p.ty) numbers)

-- the input of the obligation with a number
abbrev pub input_said : Prog → ℕ → List ℕ → Input
input_said prog o numbers = record { obligation = o; args = args_said (params_at prog o) numbers }
