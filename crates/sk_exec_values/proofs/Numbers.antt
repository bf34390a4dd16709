-- What digits spell, read from the left.
use Rattle.std.proofs.Common.{◌≡◌, ℕ, ◌+◌, ◌-◌, ◌*◌, ◌<◌, ◌≤◌, cond, ltb, leb, List, [], ◌∷◌, Some, None, refl, ap, arith, add-one}
use Rattle.std.proofs.Math.Dec.{leb-suc-suc}
use Rattle.std.proofs.lemmas.Bool.{lt-ltb, le-ltb}
use Rattle.sk_tree.specs.Tokens.{number_from, number_of}

-- more digits make no smaller number
pub number_grows : (n : ℕ) (bs : List ℕ) → n ≤ number_from n bs
number_grows n [] = omega arith
number_grows n (b ∷ bs) = let rest = number_grows (10 * n + (b - 48)) bs in omega arith

pub number_read : (bs : List ℕ) (limit n : ℕ) → n < limit → n ≡ number_from 0 bs → Some n ≡ cond (ltb (number_of bs) limit) (Some (number_of bs)) None
unfolding number_of
number_read bs limit n within e = let t = lt-ltb (number_from 0 bs) limit (omega arith) in rw t (ap Some e)

pub number_too_large : (bs : List ℕ) (limit : ℕ) → limit ≤ number_of bs → None ≡ cond (ltb (number_of bs) limit) (Some (number_of bs)) None
number_too_large bs limit above = let t = le-ltb (number_of bs) limit above in rw t refl

pub below_or_at : (n most : ℕ) → ltb n (most + 1) ≡ leb n most
below_or_at n most = rw (add-one most) (leb-suc-suc n most)
