-- Tables of numbers by names: what the numbers stand for is the table's owner's.
use Rattle.std.specs.Prelude.{◌≡◌, ℕ, List, Option, cond}
use Rattle.std.specs.Map.{lookup}
use Rattle.std.specs.Str.{bytes_eq}
use Rattle.sk_types_rules.specs.Scope.{place_of}

-- the number of a name, where it has one
unfoldable pub number_of : List (List ℕ × ℕ) → List ℕ → Option ℕ
number_of rows x = lookup (bytes_eq x) rows

-- A name has this number from now on, or none, and all others keep theirs.
abbrev pub Sets : List (List ℕ × ℕ) → List (List ℕ × ℕ) → List ℕ → Option ℕ → Type 0
Sets old new x number = (y : List ℕ) → number_of new y ≡ cond (bytes_eq x y) number (number_of old y)

-- The number of each name is its place in a list, the first if it stands there more than once.
abbrev pub ArePlaces : List (List ℕ × ℕ) → List (List ℕ) → Type 0
ArePlaces rows names = (x : List ℕ) → number_of rows x ≡ place_of names x
