-- How the values are spelt with which `exec` calls a function: an `int` as at most ten digits, with a minus
-- sign before them or without, in the range of `int`; a `bit` as `0` or `1`; an array as its scalars with
-- commas between them, those of element 0 first.
use Rattle.std.specs.Prelude.{ℕ, pos, ◌-ℤ◌, ◌*◌, ◌-◌, ◌^◌, ◌==◌, nat_lt, nat_le, zero, suc, true, false, ◌&&◌, List, [], ◌∷◌, length, take, drop, Option, Some, None, option_map, if◌then◌else◌, codes}
use Rattle.std.specs.Str.{bytes_eq}
use Rattle.sk_base.specs.declared.bounds.Bounds.{Bounds}
use Rattle.sk_tree.specs.Tokens.{number_of}
use Rattle.sk_prog.specs.declared.ty.Elem.{Elem}
use Rattle.sk_prog.specs.declared.ty.Elem.TheVariants as elem
use Rattle.sk_prog.specs.declared.ty.Ty.{Ty}
use Rattle.sk_prog.specs.declared.ty.Ty.TheVariants as ty
use Rattle.sk_prog.specs.declared.value.Value.{Value}
use Rattle.sk_prog.specs.declared.value.Value.TheVariants as value
use Rattle.sk_opts.specs.Settings.{is_number}

-- Scalars

abbrev pub half : Bounds → ℕ
half bounds = 2 ^ (bounds.int_bits - 1)

abbrev pub spells_positive : Bounds → List ℕ → Option Value
spells_positive bounds digits = if is_number digits && nat_lt (number_of digits) (half bounds) then Some (value.Int (pos (number_of digits))) else None

abbrev pub spells_negative : Bounds → List ℕ → Option Value
spells_negative bounds digits = if is_number digits && nat_le (number_of digits) (half bounds) then Some (value.Int (pos 0 -ℤ pos (number_of digits))) else None

abbrev pub spells_int : Bounds → List ℕ → Option Value
spells_int bounds [] = None
spells_int bounds (b ∷ bs) = if b == 45 then spells_negative bounds bs else spells_positive bounds (b ∷ bs)

abbrev pub spells_bit : List ℕ → Option Value
spells_bit word =
    if bytes_eq word (codes "0") then Some (value.Bit false)
    else (if bytes_eq word (codes "1") then Some (value.Bit true)
    else None)

-- No word spells a reference.
abbrev pub spells_scalar : Bounds → Elem → List ℕ → Option Value
spells_scalar bounds elem.Int word = spells_int bounds word
spells_scalar bounds elem.Bit word = spells_bit word
spells_scalar bounds (elem.Reference s) word = None

-- Arrays

abbrev pub longer_first : ℕ → List (List ℕ) → List (List ℕ)
longer_first b [] = (b ∷ []) ∷ []
longer_first b (w ∷ ws) = (b ∷ w) ∷ ws

-- what stands between commas
abbrev pub between_commas : List ℕ → List (List ℕ)
between_commas [] = [] ∷ []
between_commas (b ∷ bs) = if b == 44 then [] ∷ between_commas bs else longer_first b (between_commas bs)

abbrev pub both : {A : Type 0} → Option A → Option (List A) → Option (List A)
both None vs = None
both (Some v) None = None
both (Some v) (Some vs) = Some (v ∷ vs)

-- each of these words spells a scalar
abbrev pub spell_scalars : Bounds → Elem → List (List ℕ) → Option (List Value)
spell_scalars bounds e [] = Some []
spell_scalars bounds e (w ∷ ws) = both (spells_scalar bounds e w) (spell_scalars bounds e ws)

-- exactly so many scalars
abbrev pub spells_row : Bounds → Elem → ℕ → List (List ℕ) → Option (List Value)
spells_row bounds e n words = if length words == n then spell_scalars bounds e words else None

-- so many rows of n values each
abbrev pub rows_of : ℕ → ℕ → List Value → List Value
rows_of n zero vs = []
rows_of n (suc m) vs = value.Array (take n vs) ∷ rows_of n m (drop n vs)

-- the value of a type that a word spells, where it spells one
unfoldable pub spells_value : Bounds → Ty → List ℕ → Option Value
spells_value bounds (ty.One e) word = spells_scalar bounds e word
spells_value bounds (ty.Array e n) word = option_map value.Array (spells_row bounds e n (between_commas word))
spells_value bounds (ty.Grid e n m) word = option_map (λ vs. value.Array (rows_of n m vs)) (spells_row bounds e (n * m) (between_commas word))
