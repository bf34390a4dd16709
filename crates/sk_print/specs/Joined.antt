-- Texts that are written one after another, with the same bytes between two.
use Rattle.std.specs.Prelude.{ℕ, List, [], ◌++◌, Bool, true, false}
use Rattle.std.specs.List.{flat_map, join_by}

-- what stands before a text: nothing before the first
abbrev pub gap_between : Bool → List ℕ → List ℕ
gap_between true between = []
gap_between false between = between

-- the texts that are left, where the next is the first, and where it is not
abbrev pub joined_from : {A : Type 0} → Bool → (A → List ℕ) → List ℕ → List A → List ℕ
joined_from true text between xs = join_by text between xs
joined_from false text between xs = flat_map (λ x. between ++ text x) xs
