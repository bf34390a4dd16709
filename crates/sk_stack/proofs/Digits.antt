-- Numbers, read digit by digit.
use Rattle.std.proofs.Common.{◌≡◌, ◌+◌, ◌-◌, ◌*◌, ◌^◌, ◌≤◌, ◌∷◌, ℕ, Bool, true, false, List, [], length, get_or, cond, ltb, refl, sym, ap, arith, ◌∙◌}
use Rattle.std.specs.Prelude.{Some, None}
use Rattle.std.specs.Char.{is_ascii_digit}
use Rattle.std.proofs.lemmas.Bool.{le-ltb, ltb-false}
use Rattle.sk_stack.specs.Limits.{digits_from, below_limit}

-- more digits make no smaller number
pub number_grows : (n : ℕ) (bs : List ℕ) → n ≤ digits_from n bs
number_grows n [] = omega arith
number_grows n (b ∷ bs) = by_digit (is_ascii_digit b) (number_grows (10 * n + (b - 48)) bs)
  where
    by_digit : (d : Bool) → 10 * n + (b - 48) ≤ digits_from (10 * n + (b - 48)) bs → n ≤ cond d (digits_from (10 * n + (b - 48)) bs) n
    by_digit true rest = omega arith
    by_digit false rest = omega arith

-- a number that is too large stays so with more digits
pub too_large : (n m : ℕ) (bs : List ℕ) → None ≡ below_limit n → digits_from n bs ≡ m → None ≡ below_limit m
too_large n m bs h e = by_test (ltb n (2 ^ 64)) refl h (number_grows n bs)
  where
    by_test : (t : Bool) → ltb n (2 ^ 64) ≡ t → None ≡ cond t (Some n) None → n ≤ digits_from n bs → None ≡ below_limit m
    by_test true p q grows = absurd (cc)
    by_test false p q grows =
        let far = ltb-false n (2 ^ 64) p in
        sym (ap (λ b. cond b (Some m) None) (le-ltb m (2 ^ 64) (omega arith)))

-- and so with a digit at the front of those that are left
pub digit_too_many : (n m : ℕ) (rest : List ℕ) → 1 ≤ length rest → is_ascii_digit (get_or rest 0 0) ≡ true → None ≡ below_limit (10 * n + (get_or rest 0 0 - 48)) → digits_from n rest ≡ m → None ≡ below_limit m
digit_too_many n m [] some digit large e = absurd (omega arith)
digit_too_many n m (b ∷ bs) some digit large e =
    too_large (10 * n + (b - 48)) m bs large (sym (ap (λ t. cond t (digits_from (10 * n + (b - 48)) bs) n) digit) ∙ e)
