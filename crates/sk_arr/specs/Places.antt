-- What an index and a slice name in a list of values, and the list with one value replaced.
use Rattle.std.specs.Prelude.{ℕ, ◌+◌, ℤ, pos, negsuc, Bool, false, List, length, take, drop, slice_get, slice_set, Option, Some, None, nat_lt, nat_le, if◌then◌else◌}
use Rattle.sk_dag.specs.declared.shape.Seen.{Seen}

-- whether the index names one of so many
abbrev pub is_within : ℕ → ℤ → Bool
is_within count (pos i) = nat_lt i count
is_within count (negsuc i) = false

-- the value that the index names, where there is one
abbrev pub element_of : List Seen → ℤ → Option Seen
element_of values (pos i) = slice_get values i
element_of values (negsuc i) = None

-- the values with the one replaced that the index names; where it names none, the values as they are
abbrev pub replaced_at : List Seen → ℤ → Seen → List Seen
replaced_at values (pos i) value = slice_set values i value
replaced_at values (negsuc i) value = values

-- whether the index names the first of so many values, all of them among the count
abbrev pub is_slice_within : ℕ → ℕ → ℤ → Bool
is_slice_within count wanted (pos i) = nat_le (i + wanted) count
is_slice_within count wanted (negsuc i) = false

-- so many values from the index on, where all of them are there
abbrev pub slice_of : List Seen → ℤ → ℕ → Option (List Seen)
slice_of values (pos i) wanted = if nat_le (i + wanted) (length values) then Some (take wanted (drop i values)) else None
slice_of values (negsuc i) wanted = None
