-- What stands between signs.
use Rattle.std.specs.Prelude.{ℕ, ◌==◌, List, [], ◌∷◌, Option, Some, None, if◌then◌else◌}

-- what stands before the first of a sign, and what behind it, where it stands at all
abbrev pub front_of : ℕ → List ℕ → List ℕ
front_of sign [] = []
front_of sign (b ∷ bs) = if b == sign then [] else b ∷ front_of sign bs

abbrev pub back_of : ℕ → List ℕ → Option (List ℕ)
back_of sign [] = None
back_of sign (b ∷ bs) = if b == sign then Some bs else back_of sign bs

abbrev pub longer_first : ℕ → List (List ℕ) → List (List ℕ)
longer_first b [] = (b ∷ []) ∷ []
longer_first b (w ∷ ws) = (b ∷ w) ∷ ws

-- the pieces between signs
abbrev pub pieces : ℕ → List ℕ → List (List ℕ)
pieces sign [] = [] ∷ []
pieces sign (b ∷ bs) = if b == sign then [] ∷ pieces sign bs else longer_first b (pieces sign bs)
