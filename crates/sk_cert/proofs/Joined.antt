-- Scalars with commas between them, one after another.
use Rattle.std.proofs.Common.{◌≡◌, ℕ, List, [], ◌∷◌, ◌++◌, codes, refl, ap, append_assoc}
use Rattle.std.specs.Prelude.{ℤ}
use Rattle.std.specs.Fmt.{signed_decimal}
use Rattle.std.specs.List.{flat_map, join_by}

-- the scalars, this text in front of the first and a comma in front of each other
abbrev pub joined : List ℕ → List ℤ → List ℕ
joined between [] = []
joined between (z ∷ zs) = between ++ (signed_decimal z ++ joined (codes ",") zs)

joined_more : (zs : List ℤ) → flat_map (λ z. codes "," ++ signed_decimal z) zs ≡ joined (codes ",") zs
joined_more [] = refl
joined_more (z ∷ zs) = let rest = joined_more zs in rw rest (append_assoc (codes ",") (signed_decimal z) (joined (codes ",") zs))

pub joined_first : (zs : List ℤ) → join_by signed_decimal (codes ",") zs ≡ joined [] zs
joined_first [] = refl
joined_first (z ∷ zs) = ap (λ more. signed_decimal z ++ more) (joined_more zs)
