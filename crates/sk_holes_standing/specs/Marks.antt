-- Which of some parts stand, and which functions are called, as marks in a table.
use Rattle.std.specs.Prelude.{ℕ, ◌+◌, List, [], ◌∷◌, Bool, true, slice_set}
use Rattle.sk_model.specs.Parts.{Part}
use Rattle.sk_model.specs.Stands.{Standing, part_if}

-- the table in which these functions too are marked; one that is not in the table is passed over
abbrev pub marked : List Bool → List ℕ → List Bool
marked table [] = table
marked table (f ∷ fs) = marked (slice_set table f true) fs

-- a part, if it stands
unfoldable pub kept_if : Bool → Part Standing → Part Standing
kept_if b p = part_if b p

-- of these parts, of which the first has number k, those stand whose number meets a test
abbrev pub some_of : (ℕ → Bool) → ℕ → List (Part Standing) → List (Part Standing)
some_of test k [] = []
some_of test k (p ∷ ps) = kept_if (test k) p ∷ some_of test (k + 1) ps
