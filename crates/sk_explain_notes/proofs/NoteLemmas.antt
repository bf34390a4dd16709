use Rattle.std.proofs.Common.{◌≡◌, zero, suc, ◌<◌, ◌+◌, ◌^◌, ℕ, Bool, true, List, [], ◌∷◌, ◌++◌, map, decimal, refl, ap, ◌∙◌, arith, rules}
use Rattle.std.specs.List.{list_all}
use Rattle.std.specs.Int.Digits.{AllBelowBase, digits_of}
use Rattle.std.proofs.lemmas.List.Folds.{list_all-append}
use Rattle.std.proofs.lemmas.Fmt.{decimal-digits_of, decimal_digit}
use Rattle.std.proofs.lemmas.Int.Digits.{all_below_base_digits_of}
use Rattle.sk_explain_notes.specs.Notes.{plain}

-- all bytes pass, and one more that passes
pub all_pushed : (p : ℕ → Bool) (xs : List ℕ) (b : ℕ) → list_all p xs ≡ true → p b ≡ true → list_all p (xs ++ b ∷ []) ≡ true
all_pushed p xs b all here = rw (list_all-append p xs (b ∷ []), all, here) refl

-- a digit is printable ASCII
plain_digit : (d : ℕ) → d < 10 → plain (48 + d) ≡ 48 + d
plain_digit d small = search (rules, arith)

plain_digits : (ds : List ℕ) → AllBelowBase 10 ds → map plain (map (λ d. 48 + d) ds) ≡ map (λ d. 48 + d) ds
plain_digits [] all = refl
plain_digits (d ∷ ds) (here, all) = ap (λ b. b ∷ map plain (map (λ e. 48 + e) ds)) (plain_digit d here) ∙ ap (λ bs. (48 + d) ∷ bs) (plain_digits ds all)

-- a number in decimal is printable ASCII
pub plain_decimal : (n : ℕ) → n < 2 ^ 64 → map plain (decimal n) ≡ decimal n
plain_decimal zero within = let spelt = decimal_digit 0 (omega arith) in rw spelt refl
plain_decimal (suc n) within =
    let spelt = decimal-digits_of (suc n) (omega arith) within in
    rw (spelt) (plain_digits (digits_of 10 (suc n)) (all_below_base_digits_of 10 (suc n) (omega arith)))
