-- Text for people: printable ASCII and line feeds.
use Rattle.std.specs.Prelude.{ℕ, ◌==◌, Bool, ◌&&◌, ◌||◌, nat_le, if◌then◌else◌, List, [], ◌∷◌, ◌++◌, map}
use Rattle.std.specs.List.{flat_map}

-- printable ASCII
abbrev pub is_plain : ℕ → Bool
is_plain b = nat_le 32 b && nat_le b 126

-- what a note may have
abbrev pub is_note : ℕ → Bool
is_note b = is_plain b || (b == 10)

-- a byte as a note has it
abbrev pub plain : ℕ → ℕ
plain b = if is_plain b then b else 63

-- words as a note has them, one directly behind another
abbrev pub said : List (List ℕ) → List ℕ
said words = flat_map (λ word. map plain word) words

-- a line of them
abbrev pub line_said : List (List ℕ) → List ℕ
line_said words = said words ++ 10 ∷ []

-- one word
abbrev pub one : List ℕ → List ℕ
one word = said (word ∷ [])

-- a line of one word
abbrev pub one_line : List ℕ → List ℕ
one_line word = line_said (word ∷ [])
