-- Names that are nearly another.
use Rattle.std.specs.Prelude.{ℕ, ◌/◌, nat_eq, nat_le, nat_lt, Bool, ◌&&◌, List, [], ◌∷◌, length, Option, Some, None, if◌then◌else◌}
use Rattle.strsim.specs.Edits.{levenshtein_row}

-- how many edits lead from one name to another: bytes put in, taken out or changed
abbrev pub edits : List ℕ → List ℕ → ℕ
edits from to = levenshtein_row nat_eq from to (length to)

-- both have at most 40 bytes
abbrev pub are_short : List ℕ → List ℕ → Bool
are_short from to = nat_le (length from) 40 && nat_le (length to) 40

-- a number of edits by which a name is near a word of so many bytes: one at least, two at most, and no more than half of the
-- bytes
abbrev pub are_few : ℕ → ℕ → Bool
are_few count bytes = nat_le 1 count && (nat_le count 2 && nat_le count (bytes / 2))

-- a name is near a word
abbrev pub is_near : List ℕ → List ℕ → Bool
is_near word name = are_short word name && are_few (edits word name) (length word)

-- how many edits lead to a name that is near
abbrev pub near_by : List ℕ → List ℕ → Option ℕ
near_by word name = if is_near word name then Some (edits word name) else None

-- with one name more: it is taken where it is near, and fewer edits lead to it than to what was taken
abbrev pub is_nearer : List ℕ → Option (List ℕ) → List ℕ → Bool
is_nearer word None name = is_near word name
is_nearer word (Some taken) name = is_near word name && nat_lt (edits word name) (edits word taken)

abbrev pub nearest_from : List ℕ → Option (List ℕ) → List (List ℕ) → Option (List ℕ)
nearest_from word found [] = found
nearest_from word found (name ∷ names) = nearest_from word (if is_nearer word found name then Some name else found) names

-- the first of the names that are nearest to a word
abbrev pub nearest : List ℕ → List (List ℕ) → Option (List ℕ)
nearest word names = nearest_from word None names
