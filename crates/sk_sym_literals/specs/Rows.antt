-- What is made longer of a shape: the elements of an array, or the shape itself alone.
use Rattle.std.specs.Prelude.{Bool, true, false, List, [], ◌∷◌, if◌then◌else◌}
use Rattle.sk_dag.specs.declared.shape.Shape.{Shape}
use Rattle.sk_dag.specs.declared.shape.Shape.TheOpen.{Shape-F, Array}
use Rattle.sk_dag.specs.declared.shape.Shape.TheViews.{out-Shape}

abbrev pub is_row_form : Shape-F Shape → Bool
is_row_form (Array parts) = true
is_row_form _ = false

-- whether a shape is an array
abbrev pub is_row : Shape → Bool
is_row s = is_row_form (out-Shape s)

abbrev pub parts_in : Shape-F Shape → List Shape
parts_in (Array parts) = parts
parts_in _ = []

-- the elements of an array; any other shape has none
abbrev pub parts_of : Shape → List Shape
parts_of s = parts_in (out-Shape s)

abbrev pub first_is_row : List Shape → Bool
first_is_row [] = false
first_is_row (s ∷ list) = is_row s

-- the elements of an array, and of any other shape the shape alone
abbrev pub row_of : Shape → List Shape
row_of s = if is_row s then parts_of s else s ∷ []

-- the elements of an array of arrays, and of any other shape the shape alone
abbrev pub rows_of : Shape → List Shape
rows_of s = if first_is_row (parts_of s) then parts_of s else s ∷ []
