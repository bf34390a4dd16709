-- Arithmetic of words, on their bits as numbers.
use Rattle.std.proofs.Common.{◌≡◌, ℕ, zero, suc, ◌+◌, ◌-◌, ◌*◌, ◌/◌, ◌%◌, ◌^◌, ◌<◌, ◌≤◌, Bool, true, false, not, refl, sym, ap, subst, ◌∙◌, arith, if◌then◌else◌, nat_lt, nat_eq, ℤ, pos, negsuc, neg_ℤ, ◌+ℤ◌, ◌-ℤ◌, ◌*ℤ◌, unsigned_abs, true≢false, ⊎_elim}
use Rattle.std.proofs.lemmas.Int.{ints, int_rem_euclid_is}
use Rattle.std.proofs.lemmas.Bool.{cases_lt}
use Rattle.std.proofs.lemmas.Bool.Decides.{nat_tests, Decides-int_eq}
use Rattle.std.proofs.Math.Nat.{mod-eq_of_lt, add-mod_right, min-eq_left, min-eq_right}
use Rattle.std.proofs.Math.Pow.{pow_pos}
use Rattle.std.specs.Prelude.{int_div, int_rem, min, ◌&&◌}
use Rattle.std.specs.Int.{int_rem_euclid}
use Rattle.std.specs.Ordering.{int_eq}
use Rattle.sk_base.specs.Word.{half, pattern, signed, wrapped, IsWord}
use Rattle.sk_base.proofs.Words.{half_pos, pattern_below, pattern-add, pattern-signed, wrapped-word}
use Rattle.sk_dag.specs.Word.{quotient, remainder}
use Rattle.sk_dag.specs.Eval.{charge}
use Rattle.sk_gates.specs.Bits.{differ}
use Rattle.sk_gates.specs.Words.{digit, quotient_of, remainder_of}
use Rattle.sk_gates.proofs.WordLaws.{power_more}
use Rattle.sk_cnf.specs.Signed.{HasSign}

pub doubled : (w : ℕ) → 1 ≤ w → 2 ^ w ≡ 2 * half w
doubled w h = let e : w - 1 + 1 ≡ w = omega arith in ap (λ k. 2 ^ k) (sym e) ∙ power_more (w - 1)

-- the word with these bits, where they are the bits of a number
pub wrapped_is : (w r : ℕ) (z : ℤ) → r ≡ pattern w z → signed w r ≡ wrapped w z
unfolding wrapped
wrapped_is w r z e = ap (signed w) e

module _ (w : ℕ) (positive : 1 ≤ w) where
  n : ℕ
  n = 2 * half w

  bits_fit : (a : ℕ) → a < 2 ^ w → a < 2 * half w
  bits_fit a h = omega (arith, doubled w positive)

  pattern_of : (a : ℕ) → a < 2 ^ w → pattern w (signed w a) ≡ a
  pattern_of a h = pattern-signed w a (bits_fit a h)

  pub added : (a b r : ℕ) → a < 2 ^ w → b < 2 ^ w → r ≡ (a + b + 0) % 2 ^ w → signed w r ≡ wrapped w (signed w a +ℤ signed w b)
  added a b r ha hb e =
      let zero_more : a + b + 0 ≡ a + b = omega arith in
      let p : pattern w (signed w a +ℤ signed w b) ≡ (a + b) % (2 * half w) = pattern-add w (signed w a) (signed w b) ∙ ap (λ x. (x + pattern w (signed w b)) % (2 * half w)) (pattern_of a ha) ∙ ap (λ x. (a + x) % (2 * half w)) (pattern_of b hb) in
      wrapped_is w r _ (e ∙ ap (λ x. x % 2 ^ w) zero_more ∙ ap (λ x. (a + b) % x) (doubled w positive) ∙ sym p)

  -- what is taken from a sum again
  less_again : (p a b m : ℕ) → p < m → a < m → b < m → a ≡ (p + b) % m → p ≡ (a + (m - b)) % m
  less_again p a b m hp ha hb e =
      ⊎_elim
      (λ (k : p + b < m).
      let s : a ≡ p + b = e ∙ mod-eq_of_lt k in
      let t : a + (m - b) ≡ p + m = omega arith in
      sym (ap (λ x. x % m) t ∙ add-mod_right p m ∙ mod-eq_of_lt hp))
      (λ (k : m ≤ p + b).
      let c : p + b ≡ (p + b - m) + m = omega arith in
      let s : a ≡ p + b - m = e ∙ ap (λ x. x % m) c ∙ add-mod_right (p + b - m) m ∙ mod-eq_of_lt (omega arith) in
      let t : a + (m - b) ≡ p = omega arith in
      sym (ap (λ x. x % m) t ∙ mod-eq_of_lt hp))
      (cases_lt (p + b) m)

  pub subtracted : (a b o r : ℕ) → a < 2 ^ w → b < 2 ^ w → o + b + 1 ≡ 2 ^ w → r ≡ (a + o + 1) % 2 ^ w → signed w r ≡ wrapped w (signed w a -ℤ signed w b)
  subtracted a b o r ha hb eo e =
      let z = signed w a -ℤ signed w b in
      let back : z +ℤ signed w b ≡ signed w a = omega (arith, ints) in
      let p : a ≡ (pattern w z + b) % (2 * half w) = sym (pattern_of a ha) ∙ ap (pattern w) (sym back) ∙ pattern-add w z (signed w b) ∙ ap (λ x. (pattern w z + x) % (2 * half w)) (pattern_of b hb) in
      let d = doubled w positive in
      let q = less_again (pattern w z) a b (2 * half w) (pattern_below w z) (bits_fit a ha) (bits_fit b hb) p in
      let t : a + o + 1 ≡ a + (2 * half w - b) = omega (arith, d, eo, hb) in
      wrapped_is w r z (e ∙ ap (λ x. x % 2 ^ w) t ∙ ap (λ x. (a + (2 * half w - b)) % x) d ∙ sym q)

  -- the bits of a negated number
  pub negated_bits : (q r : ℕ) (s : Bool) → q < 2 ^ w → r ≡ (if s then (2 ^ w - q) % 2 ^ w else q) → signed w r ≡ wrapped w (if s then neg_ℤ (pos q) else pos q)
  negated_bits q r false h e = wrapped_is w r (pos q) (e ∙ sym (mod-eq_of_lt (bits_fit q h)))
  negated_bits q r true h e =
      let d = doubled w positive in
      let one = int_rem_euclid_is (neg_ℤ (pos q)) (pos (2 * half w)) (2 * half w) 1 (2 * half w - q) (omega (arith, half_pos w)) refl (let b = bits_fit q h in omega (arith, ints, b)) in
      let is : pattern w (neg_ℤ (pos q)) ≡ (2 * half w - q) % (2 * half w) = ap unsigned_abs one in
      wrapped_is w r (neg_ℤ (pos q)) (e ∙ ap (λ x. (x - q) % x) d ∙ sym is)

-- ---- the sign of a word, and its absolute value

pub is_negative : ℕ → ℕ → Bool
is_negative w a = not (nat_lt a (half w))

signed_negative : (w a : ℕ) → half w ≤ a → a < 2 * half w → signed w a ≡ negsuc (2 * half w - 1 - a)
signed_negative w a low high =
    let t : nat_lt a (half w) ≡ false = grind (arith, nat_tests) in
    rw t (omega (arith, ints))

signed_positive : (w a : ℕ) → a < half w → signed w a ≡ pos a
signed_positive w a h = let t : nat_lt a (half w) ≡ true = grind (arith, nat_tests) in rw t refl

pub absolute : (w a r : ℕ) (top : Bool) → 1 ≤ w → a < 2 ^ w → top ≡ not (nat_lt a (half w)) → r ≡ (if top then (2 ^ w - a) % 2 ^ w else a) → HasSign (signed w a) top r
absolute w a r top positive h is e =
    ⊎_elim
    (λ (k : a < half w).
    let t : top ≡ false = grind (arith, nat_tests) in
    let s : r ≡ a = e ∙ ap (λ x. if x then (2 ^ w - a) % 2 ^ w else a) t in
    subst (λ x. HasSign (signed w a) x r) (sym t) (record { sign = signed_positive w a k ∙ ap pos (sym s); some = λ f. absurd (true≢false (sym f)) }))
    (λ (k : half w ≤ a).
    let t : top ≡ true = grind (arith, nat_tests) in
    let d = doubled w positive in
    let p = half_pos w in
    let s : r ≡ 2 * half w - a = e ∙ ap (λ x. if x then (2 ^ w - a) % 2 ^ w else a) t ∙ mod-eq_of_lt (omega arith) ∙ omega (arith, d) in
    let b : a < 2 * half w = omega arith in
    let one : 2 * half w - a ≡ suc (2 * half w - 1 - a) = omega arith in
    let neg : neg_ℤ (pos r) ≡ negsuc (2 * half w - 1 - a) = ap (λ x. neg_ℤ (pos x)) (s ∙ one) in
    subst (λ x. HasSign (signed w a) x r) (sym t) (record { sign = signed_negative w a k b ∙ sym neg; some = λ f. omega arith }))
    (cases_lt a (half w))

-- ---- products

product_bits : (w k m : ℕ) (z : ℤ) (r : ℕ) → 1 ≤ w → z +ℤ pos (k * (2 * half w)) ≡ pos m → r ≡ m % 2 ^ w → signed w r ≡ wrapped w z
product_bits w k m z r positive e is =
    let one = int_rem_euclid_is z (pos (2 * half w)) (2 * half w) k m (omega (arith, half_pos w)) refl e in
    wrapped_is w r z (is ∙ ap (λ x. m % x) (doubled w positive) ∙ sym (ap unsigned_abs one))

-- what is taken from a multiple and given back
cancel : (m k : ℕ) → neg_ℤ (pos m) +ℤ pos (m + k) ≡ pos k
cancel m k = omega (arith, ints)

first_negative : (c a b : ℕ) → (neg_ℤ (pos (c * b))) +ℤ pos (b * (c + a)) ≡ pos (a * b)
first_negative c a b =
    let e : b * (c + a) ≡ c * b + a * b = omega arith in
    rw e (cancel (c * b) (a * b))

second_negative : (d a b : ℕ) → (neg_ℤ (pos (a * d))) +ℤ pos (a * (d + b)) ≡ pos (a * b)
second_negative d a b =
    let e : a * (d + b) ≡ a * d + a * b = omega arith in
    rw e (cancel (a * d) (a * b))

both_negative : (c d k : ℕ) → pos (c * d) +ℤ pos (k * (k + c + d)) ≡ pos ((k + d) * (k + c))
both_negative c d k =
    let e : c * d + k * (k + c + d) ≡ (k + d) * (k + c) = omega arith in
    ap pos e

-- the word of bits from the half on, as a negative number
far : (w a : ℕ) → half w ≤ a → a < 2 * half w → (i : ℕ) × (signed w a ≡ negsuc i) × (suc i + a ≡ 2 * half w)
far w a low high = (2 * half w - 1 - a, signed_negative w a low high, omega arith)

pub multiplied : (w a b r : ℕ) → 1 ≤ w → a < 2 ^ w → b < 2 ^ w → r ≡ (a * b) % 2 ^ w → signed w r ≡ wrapped w (signed w a *ℤ signed w b)
multiplied w a b r positive ha hb e =
    ⊎_elim
    (λ (ka : a < half w). ⊎_elim
    (λ (kb : b < half w).
    let is : (signed w a *ℤ signed w b) +ℤ pos (0 * (2 * half w)) ≡ pos (a * b) = rw (signed_positive w a ka, signed_positive w b kb) (let z : a * b + 0 * (2 * half w) ≡ a * b = omega arith in ap pos z) in
    product_bits w 0 (a * b) _ r positive is e)
    (λ (kb : half w ≤ b).
    let y = far w b kb below_b in
    let n : 2 * half w ≡ suc y.0 + b = sym y.2 in
    let is : (signed w a *ℤ signed w b) +ℤ pos (a * (2 * half w)) ≡ pos (a * b) = rw (signed_positive w a ka, y.1, n) (second_negative (suc y.0) a b) in
    product_bits w a (a * b) _ r positive is e)
    (cases_lt b (half w)))
    (λ (ka : half w ≤ a). ⊎_elim
    (λ (kb : b < half w).
    let x = far w a ka below_a in
    let n : 2 * half w ≡ suc x.0 + a = sym x.2 in
    let is : (signed w a *ℤ signed w b) +ℤ pos (b * (2 * half w)) ≡ pos (a * b) = rw (x.1, signed_positive w b kb, n) (first_negative (suc x.0) a b) in
    product_bits w b (a * b) _ r positive is e)
    (λ (kb : half w ≤ b).
    let x = far w a ka below_a in
    let y = far w b kb below_b in
    let k = a + b - 2 * half w in
    let n : 2 * half w ≡ k + suc x.0 + suc y.0 = omega (arith, x.2, y.2, ka, kb) in
    let ea : a ≡ k + suc y.0 = omega (arith, x.2, y.2, ka, kb) in
    let eb : b ≡ k + suc x.0 = omega (arith, x.2, y.2, ka, kb) in
    let product : a * b ≡ (k + suc y.0) * (k + suc x.0) = λ i. ea i * eb i in
    let is : (signed w a *ℤ signed w b) +ℤ pos (k * (2 * half w)) ≡ pos (a * b) =
    (λ i. (x.1 i *ℤ y.1 i) +ℤ pos (k * n i)) ∙ both_negative (suc x.0) (suc y.0) k ∙ sym (ap pos product) in
    product_bits w k (a * b) _ r positive is e)
    (cases_lt b (half w)))
    (cases_lt a (half w))
  where
    below_a : a < 2 * half w
    below_a = omega (arith, doubled w positive)

    below_b : b < 2 * half w
    below_b = omega (arith, doubled w positive)

-- ---- quotients and remainders

int_div_signs : (s t : Bool) (m k : ℕ) → (s ≡ true → 1 ≤ m) → 1 ≤ k → int_div (if s then neg_ℤ (pos m) else pos m) (if t then neg_ℤ (pos k) else pos k) ≡ (if differ s t then neg_ℤ (pos (m / k)) else pos (m / k))
int_div_signs false false m k some h = refl
int_div_signs false true m zero some h = absurd (omega (arith, h))
int_div_signs false true m (suc j) some h = refl
int_div_signs true false zero k some h = absurd (omega (arith, some refl))
int_div_signs true false (suc i) k some h = refl
int_div_signs true true zero k some h = absurd (omega (arith, some refl))
int_div_signs true true (suc i) zero some h = absurd (omega (arith, h))
int_div_signs true true (suc i) (suc j) some h = refl

int_rem_signs : (s t : Bool) (m k : ℕ) → (s ≡ true → 1 ≤ m) → 1 ≤ k → int_rem (if s then neg_ℤ (pos m) else pos m) (if t then neg_ℤ (pos k) else pos k) ≡ (if s then neg_ℤ (pos (m % k)) else pos (m % k))
int_rem_signs false false m k some h = refl
int_rem_signs false true m zero some h = absurd (omega (arith, h))
int_rem_signs false true m (suc j) some h = refl
int_rem_signs true t zero k some h = absurd (omega (arith, some refl))
int_rem_signs true false (suc i) k some h = refl
int_rem_signs true true (suc i) zero some h = absurd (omega (arith, h))
int_rem_signs true true (suc i) (suc j) some h = refl

-- numbers that are not the same
pub int_false : (x y : ℤ) → (x ≡ y → ⊥) → int_eq x y ≡ false
int_false x y h = by (int_eq x y) refl
  where
    by : (c : Bool) → int_eq x y ≡ c → int_eq x y ≡ false
    by false e = e
    by true e = absurd (h ((Decides-int_eq x y).0 e))

not_zero : (t : Bool) (k : ℕ) → 1 ≤ k → int_eq (if t then neg_ℤ (pos k) else pos k) (pos 0) ≡ false
not_zero t zero h = absurd (omega (arith, h))
not_zero false (suc k) h = int_false (pos (suc k)) (pos 0) (λ e. absurd (omega (arith, ints, e)))
not_zero true (suc k) h = int_false (negsuc k) (pos 0) (λ e. absurd (omega (arith, ints, e)))

pub signed_zero : (w : ℕ) → signed w 0 ≡ pos 0
signed_zero w = signed_positive w 0 (half_pos w)

nothing : (w r : ℕ) (s : Bool) → r ≡ (if s then (2 ^ w - 0) % 2 ^ w else 0) → r ≡ 0
nothing w r false e = e
nothing w r true e = e ∙ (let t : 2 ^ w - 0 ≡ 0 + 2 ^ w = omega arith in ap (λ x. x % 2 ^ w) t ∙ add-mod_right 0 (2 ^ w) ∙ mod-eq_of_lt (pow_pos w))

at_zero : {y : ℤ} {k : ℕ} (t : Bool) → y ≡ (if t then neg_ℤ (pos k) else pos k) → (t ≡ true → 1 ≤ k) → k ≡ 0 → y ≡ pos 0
at_zero {y} {k} false e some none = e ∙ ap pos none
at_zero {y} {k} true e some none = absurd (omega (arith, some refl, none))

module _ (w : ℕ) (positive : 1 ≤ w) (x y : ℤ) (s t : Bool) (m k : ℕ) (first : HasSign x s m) (second : HasSign y t k) where
  pub divided : (q r : ℕ) → q < 2 ^ w → q ≡ quotient_of m k → r ≡ (if differ s t then (2 ^ w - q) % 2 ^ w else q) → signed w r ≡ quotient w x y
  divided q r h is e = by (nat_eq k 0) refl
    where
      by : (b : Bool) → nat_eq k 0 ≡ b → signed w r ≡ quotient w x y
      by true z =
          let none : k ≡ 0 = grind (arith, nat_tests) in
          let q0 : q ≡ 0 = is ∙ ap (λ c. if c then 0 else m / k) z in
          let r0 : r ≡ 0 = nothing w r (differ s t) (e ∙ ap (λ p. if differ s t then (2 ^ w - p) % 2 ^ w else p) q0) in
          let y0 : y ≡ pos 0 = at_zero t second.sign second.some none in
          ap (signed w) r0 ∙ signed_zero w ∙ sym (ap (λ d. quotient w x d) y0)
      by false z =
          let some : 1 ≤ k = grind (arith, nat_tests) in
          let qs : q ≡ m / k = is ∙ ap (λ c. if c then 0 else m / k) z in
          let div : int_div x y ≡ (if differ s t then neg_ℤ (pos (m / k)) else pos (m / k)) = (λ i. int_div (first.sign i) (second.sign i)) ∙ int_div_signs s t m k first.some some in
          let apart : int_eq y (pos 0) ≡ false = ap (λ d. int_eq d (pos 0)) second.sign ∙ not_zero t k some in
          negated_bits w positive q r (differ s t) h e ∙ ap (wrapped w) (ap (λ p. if differ s t then neg_ℤ (pos p) else pos p) qs ∙ sym div)
          ∙ sym (ap (λ c. if c then pos 0 else wrapped w (int_div x y)) apart)

  pub left_over : (q r : ℕ) → q < 2 ^ w → q ≡ remainder_of m k → r ≡ (if s then (2 ^ w - q) % 2 ^ w else q) → signed w r ≡ remainder w x y
  left_over q r h is e = by (nat_eq k 0) refl
    where
      by : (b : Bool) → nat_eq k 0 ≡ b → signed w r ≡ remainder w x y
      by true z =
          let none : k ≡ 0 = grind (arith, nat_tests) in
          let q0 : q ≡ 0 = is ∙ ap (λ c. if c then 0 else m % k) z in
          let r0 : r ≡ 0 = nothing w r s (e ∙ ap (λ p. if s then (2 ^ w - p) % 2 ^ w else p) q0) in
          let y0 : y ≡ pos 0 = at_zero t second.sign second.some none in
          ap (signed w) r0 ∙ signed_zero w ∙ sym (ap (λ d. remainder w x d) y0)
      by false z =
          let some : 1 ≤ k = grind (arith, nat_tests) in
          let qs : q ≡ m % k = is ∙ ap (λ c. if c then 0 else m % k) z in
          let rem : int_rem x y ≡ (if s then neg_ℤ (pos (m % k)) else pos (m % k)) = (λ i. int_rem (first.sign i) (second.sign i)) ∙ int_rem_signs s t m k first.some some in
          let apart : int_eq y (pos 0) ≡ false = ap (λ d. int_eq d (pos 0)) second.sign ∙ not_zero t k some in
          negated_bits w positive q r s h e ∙ ap (wrapped w) (ap (λ p. if s then neg_ℤ (pos p) else pos p) qs ∙ sym rem)
          ∙ sym (ap (λ c. if c then pos 0 else wrapped w (int_rem x y)) apart)

-- ---- comparisons

pub same_signed : (w a b : ℕ) → 1 ≤ w → a < 2 ^ w → b < 2 ^ w → int_eq (signed w a) (signed w b) ≡ nat_eq a b
same_signed w a b positive ha hb = by (nat_eq a b) refl
  where
    by : (c : Bool) → nat_eq a b ≡ c → int_eq (signed w a) (signed w b) ≡ c
    by true e = let s : a ≡ b = grind (arith, nat_tests) in (Decides-int_eq (signed w a) (signed w b)).1 (ap (signed w) s)
    by false e = by_signed (int_eq (signed w a) (signed w b)) refl
      where
        by_signed : (c : Bool) → int_eq (signed w a) (signed w b) ≡ c → int_eq (signed w a) (signed w b) ≡ false
        by_signed false h = h
        by_signed true h =
            let same = (Decides-int_eq (signed w a) (signed w b)).0 h in
            let s : a ≡ b = sym (pattern_of w positive a ha) ∙ ap (pattern w) same ∙ pattern_of w positive b hb in
            let t : nat_eq a b ≡ true = grind (arith, nat_tests) in
            absurd (true≢false (sym t ∙ e))

-- ---- costs

pub charged : (w a c sum r : ℕ) (g top both carry : Bool) → a < 2 ^ w → 1 ≤ w → top ≡ not (nat_lt a (half w)) → both ≡ (g && not top) → c < 2 ^ 64 → sum < 2 ^ 64
    → sum + 2 ^ 64 * digit carry ≡ c + digit both * a + 0 → r ≡ (if carry then 2 ^ 64 - 1 else sum) → r ≡ charge c g (signed w a)
charged w a c sum r g top both carry ha positive is both_is hc hs e er = by g refl
  where
    kept : both ≡ false → carry ≡ false → r ≡ c
    kept b k = er ∙ ap (λ x. if x then 2 ^ 64 - 1 else sum) k ∙ (let f = rw (b, k) at e in omega (arith, f))

    no_carry : both ≡ false → carry ≡ false
    no_carry b = by_carry carry refl
      where
        by_carry : (k : Bool) → carry ≡ k → k ≡ false
        by_carry false h = refl
        by_carry true h = let f = rw (b, h) at e in absurd (omega (arith, f, hc))

    by : (q : Bool) → g ≡ q → r ≡ charge c q (signed w a)
    by false eg =
        let b : both ≡ false = both_is ∙ ap (λ x. x && not top) eg in
        kept b (no_carry b)
    by true eg =
        ⊎_elim
        (λ (k : a < half w).
        let t : top ≡ false = grind (arith, nat_tests) in
        let b : both ≡ true = both_is ∙ (λ i. eg i && not (t i)) in
        rw (signed_positive w a k) (positive_charge carry (nat_lt 0 a) refl refl b))
        (λ (k : half w ≤ a).
        let t : top ≡ true = grind (arith, nat_tests) in
        let b : both ≡ false = both_is ∙ (λ i. eg i && not (t i)) in
        rw (signed_negative w a k (omega (arith, doubled w positive))) (kept b (no_carry b)))
        (cases_lt a (half w))
      where
        positive_charge : (k z : Bool) → carry ≡ k → nat_lt 0 a ≡ z → both ≡ true → r ≡ (if z then min (c + a) (2 ^ 64 - 1) else c)
        positive_charge false true ek ez b =
            let f = rw (b, ek) at e in
            let rs : r ≡ sum = er ∙ ap (λ x. if x then 2 ^ 64 - 1 else sum) ek in
            let total : sum ≡ c + a = omega (arith, f) in
            rs ∙ total ∙ sym (min-eq_left (omega (arith, total, hs)))
        positive_charge true true ek ez b =
            let f = rw (b, ek) at e in
            let rs : r ≡ 2 ^ 64 - 1 = er ∙ ap (λ x. if x then 2 ^ 64 - 1 else sum) ek in
            rs ∙ sym (min-eq_right (omega (arith, f)))
        positive_charge false false ek ez b =
            let f = rw (b, ek) at e in
            let rs : r ≡ sum = er ∙ ap (λ x. if x then 2 ^ 64 - 1 else sum) ek in
            let none : a ≡ 0 = grind (arith, nat_tests) in
            rs ∙ omega (arith, f, none)
        positive_charge true false ek ez b =
            let f = rw (b, ek) at e in
            let none : a ≡ 0 = grind (arith, nat_tests) in
            absurd (omega (arith, f, none, hc))

-- ---- negation by turning each bit and adding 1

pub negated : (p b f r : ℕ) (t : Bool) → b < p → f ≡ (if t then p - 1 - b else b) → r ≡ (f + 0 + digit t) % p → r ≡ (if t then (p - b) % p else b)
negated p b f r true h e is = is ∙ ap (λ x. x % p) (let s : f + 0 + 1 ≡ p - b = omega (arith, e, h) in s)
negated p b f r false h e is = is ∙ (let s : f + 0 + 0 ≡ b = omega (arith, e) in ap (λ x. x % p) s) ∙ mod-eq_of_lt h

-- ---- words that are given

pub rem_is : (z : ℤ) (n : ℕ) → int_rem_euclid z (pos n) ≡ pos (unsigned_abs (int_rem_euclid z (pos n)))
rem_is (pos a) n = refl
rem_is (negsuc a) n = refl

pub given_word_is : (w m : ℕ) (z : ℤ) → IsWord w z → 1 ≤ w → m ≡ pattern w z % 2 ^ w → signed w m ≡ z
unfolding wrapped
given_word_is w m z is positive e =
    let small : pattern w z < 2 ^ w = omega (arith, pattern_below w z, doubled w positive) in
    ap (signed w) (e ∙ mod-eq_of_lt small) ∙ wrapped-word w z is
