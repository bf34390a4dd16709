-- Values: which value an unset variable of a type has, when two values are equal, the elements of an
-- array, and a value made longer. An array is a value: to change an element is to make a new array.
use Rattle.std.specs.Prelude.{ℕ, ◌-◌, ◌==◌, ℤ, pos, negsuc, List, [], ◌∷◌, ◌++◌, length, replicate, slice_get, slice_set, Option, Some, None, option_and_then, Bool, true, false, ◌&&◌, not, if◌then◌else◌}
use Rattle.std.specs.Ordering.{int_eq}
use Rattle.sk_prog.specs.declared.ty.Elem.{Elem}
use Rattle.sk_prog.specs.declared.ty.Elem.TheVariants as elem
use Rattle.sk_prog.specs.declared.ty.Ty.{Ty}
use Rattle.sk_prog.specs.declared.ty.Ty.TheVariants as ty
use Rattle.sk_prog.specs.declared.value.Value.{Value}
use Rattle.sk_prog.specs.declared.value.Value.TheVariants as value
use Rattle.sk_prog.specs.declared.value.Value.TheOpen as V
use Rattle.sk_prog.specs.declared.value.Value.TheViews.{out-Value}
use Rattle.sk_prog.specs.declared.value.Value.TheFolds.{fold-Value}
use Rattle.sk_prog.specs.declared.value.Value.TheBlock.{Row_of-Value, end_of-Value, more_of-Value}
use mathlib.Core.Former.{Count}

abbrev pub zero_of_elem : Elem → Value
zero_of_elem elem.Bit = value.Bit false
zero_of_elem elem.Int = value.Int (pos 0)
zero_of_elem (elem.Reference s) = value.Null

-- 0, null, or an array of these
abbrev pub zero_of : Ty → Value
zero_of (ty.One e) = zero_of_elem e
zero_of (ty.Array e n) = value.Array (replicate n (zero_of_elem e))
zero_of (ty.Grid e n m) = value.Array (replicate m (value.Array (replicate n (zero_of_elem e))))

abbrev pub truth : Bool → Value
truth b = value.Bit b

abbrev pub same_bit : Bool → Bool → Bool
same_bit true b = b
same_bit false b = not b

abbrev pub same_each : {n : Count} → List (Value → Bool) → Row_of-Value n → Bool
same_each [] end_of-Value = true
same_each (p ∷ ps) (more_of-Value v vs) = p v && same_each ps vs
same_each _ _ = false

abbrev pub equal_step : V.Value-F (Value → Bool) → Value → Bool
equal_step (V.Bit a) (value.Bit b) = same_bit a b
equal_step (V.Int a) (value.Int b) = int_eq a b
equal_step V.Null value.Null = true
equal_step (V.Place a) (value.Place b) = a == b
equal_step (V.Array ps) (value.Array' shape vs) = same_each ps vs
equal_step _ _ = false

-- References are equal where they are the same record or both null, arrays where their elements are.
abbrev pub equal : Value → Value → Bool
equal = fold-Value (Value → Bool) equal_step

abbrev pub elements_of : V.Value-F Value → List Value
elements_of (V.Array vs) = vs
elements_of _ = []

-- the elements of an array; a single value has none
abbrev pub elements : Value → List Value
elements v = elements_of (out-Value v)

-- the element with this number, where the array has one
abbrev pub element : Value → ℤ → Option Value
element v (pos i) = slice_get (elements v) i
element v (negsuc i) = None

-- The value with one part replaced, which these indexes name from the outside in; none where an index is
-- outside of its array.
abbrev pub replaced : List ℤ → Value → Value → Option Value
replaced [] v part = Some part
replaced (pos i ∷ is) v part = option_and_then (λ old. option_and_then (λ new. Some (value.Array (slice_set (elements v) i new))) (replaced is old part)) (slice_get (elements v) i)
replaced (negsuc i ∷ is) v part = None

abbrev pub is_array_form : V.Value-F Value → Bool
is_array_form (V.Array vs) = true
is_array_form _ = false

abbrev pub is_array : Value → Bool
is_array v = is_array_form (out-Value v)

abbrev pub first_is_array : List Value → Bool
first_is_array [] = false
first_is_array (v ∷ vs) = is_array v

-- an array of so many: these, and then as many of the zero as are wanting
abbrev pub lengthened : ℕ → Value → List Value → Value
lengthened n zero vs = value.Array (vs ++ replicate (n - length vs) zero)

-- A value of type u, or an array of these, as a longer array with elements of type u; any other stays.
abbrev pub padded : Ty → Value → Value
padded (ty.One e) v = v
padded (ty.Array e n) v = lengthened n (zero_of (ty.One e)) (if is_array v then elements v else v ∷ [])
padded (ty.Grid e n m) v = lengthened m (zero_of (ty.Array e n)) (if first_is_array (elements v) then elements v else v ∷ [])
