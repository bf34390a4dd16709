-- Texts with commas between them, one after another.
use Rattle.std.proofs.Common.{◌≡◌, ℕ, List, [], ◌∷◌, ◌++◌, codes, refl, ap, append_assoc}
use Rattle.std.specs.List.{flat_map, join_by}

-- the texts, this one in front of the first and a comma in front of each other
abbrev pub joined : List ℕ → List (List ℕ) → List ℕ
joined between [] = []
joined between (t ∷ ts) = between ++ (t ++ joined (codes ",") ts)

joined_more : (ts : List (List ℕ)) → flat_map (λ t. codes "," ++ t) ts ≡ joined (codes ",") ts
joined_more [] = refl
joined_more (t ∷ ts) = let rest = joined_more ts in rw rest (append_assoc (codes ",") t (joined (codes ",") ts))

pub joined_first : (ts : List (List ℕ)) → join_by (λ t. t) (codes ",") ts ≡ joined [] ts
joined_first [] = refl
joined_first (t ∷ ts) = ap (λ more. t ++ more) (joined_more ts)
