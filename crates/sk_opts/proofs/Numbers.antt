-- What digits spell, read from the left.
use Rattle.std.proofs.Common.{◌≡◌, ℕ, ◌+◌, ◌-◌, ◌*◌, ◌<◌, ◌≤◌, cond, leb, le-leb, List, [], ◌∷◌, Some, None, refl, ap, arith}
use Rattle.std.proofs.lemmas.Bool.{lt-leb}
use Rattle.sk_tree.specs.Tokens.{number_from, number_of}

-- more digits make no smaller number
pub number_grows : (n : ℕ) (bs : List ℕ) → n ≤ number_from n bs
number_grows n [] = omega arith
number_grows n (b ∷ bs) = let rest = number_grows (10 * n + (b - 48)) bs in omega arith

pub number_read : (bs : List ℕ) (most n : ℕ) → n ≤ most → n ≡ number_from 0 bs → Some n ≡ cond (leb (number_of bs) most) (Some (number_of bs)) None
unfolding number_of
number_read bs most n within e = let t = le-leb (number_from 0 bs) most (omega arith) in rw t (ap Some e)

pub number_too_large : (bs : List ℕ) (most : ℕ) → most < number_of bs → None ≡ cond (leb (number_of bs) most) (Some (number_of bs)) None
number_too_large bs most above = let t = lt-leb (number_of bs) most above in rw t refl
