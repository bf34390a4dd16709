-- What words write.
use Rattle.std.proofs.Common.{◌≡◌, ◌∙◌, ◌∷◌, ◌<◌, ◌≤◌, ◌+◌, ◌-◌, ◌^◌, ◌&&◌, not, ℕ, zero, suc, Bool, true, false, List, [], length, get_or, refl, sym, ap, subst, arith, cond, eqb, ltb, leb, rules}
use Rattle.std.specs.Prelude.{Option, Some, None, All, option_and_then}
use Rattle.std.specs.Fmt.{decimal}
use Rattle.std.specs.Str.{all_ascii_digits}
use Rattle.std.specs.Char.{is_ascii_digit}
use Rattle.std.proofs.lemmas.Bool.{ne_eqb, lt-ltb, ltb-true, eqb-true, eq-eqb}
use Rattle.std.proofs.lemmas.Fmt.{digits_decimal, digits_value-decimal, decimal-digits_value, decimal_nonempty, first_decimal, decimal_digit}
use Rattle.std.proofs.lemmas.Str.Parse.{IsNumeralModel, numerals_by_fold}
use Rattle.std.proofs.lemmas.List.Elements.{All-nil, All-cons}
use Rattle.sk_cert.specs.Words.{is_numeral, number_from, below_limit, number_of, variable_from, variable_of}
use Rattle.sk_cert.specs.Certificates.{variable_text}

own : IsNumeralModel (λ ds. all_ascii_digits ds ≡ true) (number_from 0)
own = numerals_by_fold _ (search rules) number_from (search rules)

pub both_true : (a b : Bool) → (a && b) ≡ true → (a ≡ true) × (b ≡ true)
both_true true b h = (refl, h)
both_true false b h = absurd (cc)

pub cond_some : {A : Type 0} (b : Bool) (x : A) (y : A) → cond b (Some x) None ≡ Some y → (b ≡ true) × (x ≡ y)
cond_some true x y h = (refl, cc)
cond_some false x y h = absurd (cc)

-- Numerals

pub record HasDigits (w : List ℕ) : Type 0 where
  pub digits : all_ascii_digits w ≡ true
  pub some : 0 < length w
  pub first : get_or w 0 0 ≡ 48 → length w ≡ 1

numeral_is : (w : List ℕ) → is_numeral w ≡ true → HasDigits w
unfolding is_numeral
numeral_is [] h = absurd (cc)
numeral_is (c ∷ []) h = record { digits = ap (λ b. b && true) h; some = omega arith; first = λ e. refl }
numeral_is (c ∷ d ∷ ds) h =
    let k = both_true (not (eqb c 48)) (all_ascii_digits (c ∷ d ∷ ds)) h in
    record { digits = k.1; some = omega arith; first = λ e. absurd (not_zero (eqb c 48) (eq-eqb c 48 e) k.0) }
  where
    not_zero : (b : Bool) → b ≡ true → not b ≡ true → ⊥
    not_zero true e h = cc
    not_zero false e h = cc

numeral_by : (w : List ℕ) → HasDigits w → is_numeral w ≡ true
unfolding is_numeral
numeral_by [] h = let s = h.some in absurd (omega arith)
numeral_by (c ∷ []) h = (both_true (is_ascii_digit c) true h.digits).0
numeral_by (c ∷ d ∷ ds) h =
    let other : c ≡ 48 → ⊥ = λ e. two (h.first e) in
    let e : eqb c 48 ≡ false = ne_eqb c 48 other in
    rw e h.digits
  where
    two : suc (suc (length ds)) ≡ 1 → ⊥
    two e = omega arith

decimal_is : (n : ℕ) → n < 2 ^ 64 → HasDigits (decimal n)
decimal_is zero h = record { digits = digits_decimal own 0 h; some = decimal_nonempty 0 h; first = λ e. ap length (decimal_digit 0 (omega arith)) }
decimal_is (suc n) h = record { digits = digits_decimal own (suc n) h; some = decimal_nonempty (suc n) h; first = λ e. let f = first_decimal (suc n) (omega arith) h in absurd (omega arith) }

-- Numbers

number_some : (w : List ℕ) (n : ℕ) (b : Bool) → is_numeral w ≡ b → cond b (below_limit (number_from 0 w)) None ≡ Some n → (n < 2 ^ 64) × (w ≡ decimal n)
number_some w n false is h = absurd (cc)
number_some w n true is h =
    let k = numeral_is w is in
    let c = cond_some (ltb (number_from 0 w) (2 ^ 64)) (number_from 0 w) n h in
    let small : number_from 0 w < 2 ^ 64 = ltb-true (number_from 0 w) (2 ^ 64) c.0 in
    (subst (λ m. m < 2 ^ 64) c.1 small, sym (decimal-digits_value own w k.digits k.some k.first small) ∙ ap decimal c.1)

pub number_spelt : (w : List ℕ) (n : ℕ) → number_of w ≡ Some n → (n < 2 ^ 64) × (w ≡ decimal n)
unfolding number_of
number_spelt w n h = number_some w n (is_numeral w) refl h

pub number_found : (n : ℕ) → n < 2 ^ 64 → number_of (decimal n) ≡ Some n
unfolding number_of
number_found n h =
    ap (λ b. cond b (below_limit (number_from 0 (decimal n))) None) (numeral_by (decimal n) (decimal_is n h))
    ∙ ap below_limit (digits_value-decimal own n h)
    ∙ ap (λ b. cond b (Some n) None) (lt-ltb n (2 ^ 64) h)

-- Digits are past the comma.
digits_high : (w : List ℕ) → all_ascii_digits w ≡ true → All (λ b. 47 < b) w
digits_high [] h = All-nil (λ b. 47 < b)
digits_high (c ∷ cs) h =
    let k = both_true (is_ascii_digit c) (all_ascii_digits cs) h in
    All-cons (λ b. 47 < b) c cs (digit_high c k.0) (digits_high cs k.1)
  where
    digit_high : (c : ℕ) → is_ascii_digit c ≡ true → 47 < c
    digit_high c e = let t = both_true (leb 48 c) (leb c 57) e in let l = Rattle.std.proofs.lemmas.Bool.leb-true 48 c t.0 in omega arith

pub decimal_high : (n : ℕ) → n < 2 ^ 64 → All (λ b. 47 < b) (decimal n)
decimal_high n h = digits_high (decimal n) (digits_decimal own n h)

-- Variables

pub variable_spelt : (vars : ℕ) (w : List ℕ) (v : ℕ) → variable_of vars w ≡ Some v → (v < vars) × (w ≡ variable_text v)
unfolding variable_of
variable_spelt vars w v h = from (number_of w) refl h
  where
    from : (o : Option ℕ) → number_of w ≡ o → option_and_then (variable_from vars) o ≡ Some v → (v < vars) × (w ≡ variable_text v)
    from None is h = absurd (cc)
    from (Some n) is h =
        let k = number_spelt w n is in
        let c = cond_some (ltb 0 n && leb n vars) (n - 1) v h in
        let t = both_true (ltb 0 n) (leb n vars) c.0 in
        let low : 0 < n = ltb-true 0 n t.0 in
        let high : n ≤ vars = Rattle.std.proofs.lemmas.Bool.leb-true n vars t.1 in
        let e : n - 1 ≡ v = c.1 in
        let same : n ≡ v + 1 = omega arith in
        (omega arith, k.1 ∙ ap decimal same)

pub variable_found : (vars v : ℕ) → vars < 2 ^ 64 → v < vars → variable_of vars (variable_text v) ≡ Some v
unfolding variable_of
variable_found vars v small h =
    let low : ltb 0 (v + 1) ≡ true = lt-ltb 0 (v + 1) (omega arith) in
    let high : leb (v + 1) vars ≡ true = Rattle.std.proofs.lemmas.Bool.le-leb (v + 1) vars (omega arith) in
    let less : v + 1 - 1 ≡ v = omega arith in
    ap (option_and_then (variable_from vars)) (number_found (v + 1) (omega arith))
    ∙ ap (λ b. cond (b && leb (v + 1) vars) (Some (v + 1 - 1)) None) low
    ∙ ap (λ b. cond b (Some (v + 1 - 1)) None) high
    ∙ ap (λ n. Some n) less
