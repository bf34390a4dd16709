-- Lists that are not told to their end.
use Rattle.std.specs.Prelude.{ℕ, ◌-◌, nat_le, List, [], ◌∷◌, ◌++◌, map, decimal, codes, if◌then◌else◌}
use Rattle.sk_explain_notes.specs.Notes.{plain}

-- so many items of a list are told at most
abbrev pub most_told : ℕ
most_told = 20

-- how many items of so many are not told, where there are some
abbrev pub rest_text : ℕ → List ℕ
rest_text count = if nat_le count most_told then [] else map plain (codes " and ") ++ decimal (count - most_told) ++ map plain (codes " more")

-- a line with how many items of so many are not told, where there are some
abbrev pub more_text : ℕ → List ℕ
more_text count = if nat_le count most_told then [] else map plain (codes "and ") ++ decimal (count - most_told) ++ map plain (codes " more") ++ 10 ∷ []
