-- What is shown of a text at a place.
use Rattle.std.specs.Prelude.{ℕ, ◌+◌, ◌-◌, ◌==◌, ◌≡◌, max, min, nat_le, if◌then◌else◌, List, [], ◌∷◌, ◌++◌, length, map, take, replicate, decimal, codes}
use Rattle.sk_explain_places.specs.declared.places.Place.{Place}
use Rattle.sk_explain_places.specs.declared.spots.Spot.{Spot}
use Rattle.sk_explain_places.specs.Lines.{IsPlace, IsLineOf}
use Rattle.sk_explain_places.specs.Visible.{visible}

-- a line is shown where it has at most so many bytes
abbrev pub longest_shown : ℕ
longest_shown = 160

-- how many bytes of a span of so many are marked, where so many of the line are left: those in the line, and one at least
abbrev pub marked : ℕ → ℕ → ℕ
marked span left = max 1 (min span left)

-- what is shown of the bytes from `from` up to `to`
pub record IsSpotOf (text : List ℕ) (from to : ℕ) (spot : Spot) : Type 0 where
  pub place : IsPlace text from spot.place
  pub line : IsLineOf text from spot.line
  pub width : spot.width ≡ marked (to - from) (length spot.line + 1 - spot.place.column)

-- what stands under a byte in front of the mark: a tab under a tab, and else a blank
abbrev pub pad : ℕ → ℕ
pad b = if b == 9 then 9 else 32

-- a mark under so many bytes
abbrev pub marks : ℕ → List ℕ
marks width = replicate width 94

-- the line as people see it, behind four blanks
abbrev pub line_text : List ℕ → List ℕ
line_text line = codes "    " ++ visible line ++ 10 ∷ []

-- the mark, behind four blanks and what stands under the bytes before it
abbrev pub mark_text : Spot → List ℕ
mark_text spot = codes "    " ++ map pad (take (spot.place.column - 1) spot.line) ++ marks spot.width ++ 10 ∷ []

-- the line with the mark under it, where the line is not too long
abbrev pub excerpt_text : Spot → List ℕ
excerpt_text spot = if nat_le (length spot.line) longest_shown then line_text spot.line ++ mark_text spot else []

-- a place as LINE:COLUMN
abbrev pub place_text : Place → List ℕ
place_text place = decimal place.line ++ codes ":" ++ decimal place.column
