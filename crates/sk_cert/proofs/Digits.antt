-- Numbers, read digit by digit.
use Rattle.std.proofs.Common.{◌≡◌, ◌+◌, ◌-◌, ◌*◌, ◌^◌, ◌<◌, ◌≤◌, ◌∷◌, ℕ, List, [], cond, sym, ap, arith, ◌∙◌}
use Rattle.std.specs.Prelude.{Some, None}
use Rattle.std.proofs.lemmas.Bool.{lt-ltb, le-ltb}
use Rattle.sk_cert.specs.Words.{number_from, below_limit}

-- more digits make no smaller number
pub number_grows : (n : ℕ) (bs : List ℕ) → n ≤ number_from n bs
number_grows n [] = omega arith
number_grows n (b ∷ bs) = let rest = number_grows (10 * n + (b - 48)) bs in omega arith

pub too_large : (n : ℕ) → 2 ^ 64 ≤ n → None ≡ below_limit n
too_large n h = sym (ap (λ b. cond b (Some n) None) (le-ltb n (2 ^ 64) h))

pub large_enough : (n m : ℕ) → n < 2 ^ 64 → n ≡ m → Some n ≡ below_limit m
large_enough n m h e = sym (ap (λ b. cond b (Some m) None) (lt-ltb m (2 ^ 64) (omega arith)) ∙ ap (λ k. Some k) (sym e))
