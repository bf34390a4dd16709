-- Choices that are 0 where no site stands.
use Rattle.std.specs.Prelude.{ℕ, ◌≡◌, ◌+◌, List, [], ◌∷◌, Bool, false, slice_index_or, if◌then◌else◌}
use Rattle.sk_model.specs.declared.expanded.Expanded.{Expanded}
use Rattle.sk_model.specs.Parts.{value}
use Rattle.sk_model.specs.Stands.{SiteStands}

-- values of which the first has number i, but 0 where no mark is
abbrev pub zeroed : List Bool → ℕ → List ℕ → List ℕ
zeroed marks i [] = []
zeroed marks i (v ∷ vs) = (if slice_index_or marks i false then v else 0) ∷ zeroed marks (i + 1) vs

-- These values are 0 for each site that does not stand under them.
pub record IsCanonical (e : Expanded) (values : List ℕ) : Type 0 where
  pub is_zero : (i : ℕ) → (SiteStands e values i → ⊥) → value values i ≡ 0
