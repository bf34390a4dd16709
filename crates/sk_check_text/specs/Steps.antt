-- How the line between the parts of an input is found, byte by byte. No contract of a public call cites this; that it finds the first
-- such line is proved.
use Rattle.std.specs.Prelude.{ℕ, ◌+◌, ◌==◌, Bool, List, [], ◌∷◌, take, drop, Option, Some, None, if◌then◌else◌}
use Rattle.std.specs.Str.{bytes_eq}
use Rattle.sk_check_text.specs.Splitting.{mark}

-- what stands behind the line feed with which a text begins, or nothing behind an empty one
abbrev pub behind_feed : List ℕ → Option (List ℕ)
behind_feed [] = Some []
behind_feed (b ∷ bs) = if b == 10 then Some bs else None

-- what stands behind the line between the parts, where a text begins with it
abbrev pub behind_mark : List ℕ → Option (List ℕ)
behind_mark text = if bytes_eq (take 4 text) mark then behind_feed (drop 4 text) else None

-- the same, at the start of a line
abbrev pub mark_at : Bool → List ℕ → Option (List ℕ)
mark_at starts text = if starts then behind_mark text else None

-- a place where it was found, or what is found later
abbrev pub found_or : Option (List ℕ) → ℕ → Option (ℕ × List ℕ) → Option (ℕ × List ℕ)
found_or (Some behind) at later = Some (at, behind)
found_or None at later = later

-- how many bytes stand before the first such line, so many of which were passed, and what stands behind it
abbrev pub first_mark : Bool → ℕ → List ℕ → Option (ℕ × List ℕ)
first_mark starts at [] = None
first_mark starts at (b ∷ bs) = found_or (mark_at starts (b ∷ bs)) at (first_mark (b == 10) (at + 1) bs)
