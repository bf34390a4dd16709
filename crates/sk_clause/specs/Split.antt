-- How a flat list and the places where its parts end stand for a list of lists.
use Rattle.std.specs.Prelude.{◌≡◌, ℕ, ◌≤◌, List, [], ◌∷◌, slice_range}

-- the parts of `flat` from `from` on, of which the first ends at the first of `ends`
abbrev pub parts : {X : Type 0} → ℕ → List ℕ → List X → List (List X)
parts from [] flat = []
parts from (end ∷ ends) flat = slice_range flat from end ∷ parts end ends flat

-- the ends don't fall, and the last one is `total`
abbrev pub EndsAt : ℕ → List ℕ → ℕ → Type 0
EndsAt from [] total = from ≡ total
EndsAt from (end ∷ ends) total = (from ≤ end) × EndsAt end ends total
