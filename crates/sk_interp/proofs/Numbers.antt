-- Numbers that are wrapped at 64 bits first.
use Rattle.std.proofs.Common.{◌≡◌, ◌≤◌, ◌<◌, pos, negsuc, ℕ, suc, ◌+◌, ◌-◌, ◌*◌, ◌^◌, w64, ℤ, ◌+ℤ◌, ◌-ℤ◌, ◌*ℤ◌, to_z, of_z, ◌/◌, zero, arith, ap, sym, refl, ◌∙◌, Bool, true, false, true≢false, if◌then◌else◌, ltb, FitsSigned}
use Rattle.std.specs.Int.{int_wrap}
use Rattle.std.proofs.lemmas.Int.{ints, to_z-of_z, to_z_pos, quot_fits}
use Rattle.std.proofs.Math.Facts.{to_z-neg}
use Rattle.std.specs.Prelude.{int_div, neg_ℤ}
use Rattle.std.proofs.lemmas.Bool.Decides.{nat_tests}
use Rattle.std.proofs.lemmas.Nat.{pow-add}
use Rattle.std.proofs.Math.Nat.{mul_assoc, div-le_self, div-lt_self}
use Rattle.std.proofs.lemmas.Bool.Decides.{Decides-int_eq}
use Rattle.std.specs.Ordering.{int_eq}
use Rattle.std.proofs.Math.Pow.{pow_pos}
use Rattle.sk_base.specs.Word.{wrapped, half, pattern, signed, IsWord}
use Rattle.sk_base.proofs.Words.{half_le, pattern_below, Differ-wrapped, wrapped-same}

pub word_fits : (bits : ℕ) (x : ℤ) → bits ≤ 32 → IsWord bits x → FitsSigned w64 x
word_fits bits x h w = omega (arith, ints, w.low, w.high, half_le bits h)

is_signed : (m : ℕ) → m < 2 * half 64 → to_z w64 m ≡ signed 64 m
is_signed m h = by (ltb m (half 64)) refl
  where
    by : (b : Bool) → ltb m (half 64) ≡ b → to_z w64 m ≡ (if b then pos m else (pos m -ℤ pos (2 * half 64)))
    by true e = let l : m < half 64 = grind (arith, nat_tests) in to_z_pos w64 m l
    by false e =
        let l : half 64 ≤ m = grind (arith, nat_tests) in
        let k : m ≡ 2 * half 64 - suc (2 * half 64 - 1 - m) = omega (arith, h) in
        let r : negsuc (2 * half 64 - 1 - m) ≡ pos m -ℤ pos (2 * half 64) = omega (arith, ints, h) in
        ap (to_z w64) k ∙ to_z-neg w64 (2 * half 64 - 1 - m) (omega (arith, l, h)) ∙ r

is_wrapped : (z : ℤ) → int_wrap w64 z ≡ wrapped 64 z
unfolding int_wrap wrapped
is_wrapped z = is_signed (pattern 64 z) (pattern_below 64 z)

sizes : (w : ℕ) → 2 ≤ w → w ≤ 32 → 2 * half 64 ≡ 2 ^ (64 - w) * (2 * half w)
sizes w low high =
    let p = pow-add 2 (64 - w) (w - 1) in
    let e : 64 - w + (w - 1) ≡ 63 = omega arith in
    let q : 2 ^ 63 ≡ 2 ^ (64 - w) * 2 ^ (w - 1) = ap (λ n. 2 ^ n) (sym e) ∙ p in
    omega (arith, q)

-- a multiple of a multiple
more : (z r k : ℤ) (q n m : ℕ) → 0 < q → m ≡ q * n → z ≡ r +ℤ (k *ℤ pos m) → (j : ℤ) × (z ≡ r +ℤ (j *ℤ pos n))
more z r (pos k) q n m h s e = (pos (k * q), e ∙ ap (λ i. r +ℤ pos i) (ap (λ i. k * i) s ∙ sym (mul_assoc k q n)))
more z r (negsuc k) q n m h s e =
    let some : 0 < suc k * q = omega (arith, h) in
    let p : suc k * m ≡ suc (suc k * q - 1) * n = ap (λ i. suc k * i) s ∙ sym (mul_assoc (suc k) q n) ∙ ap (λ i. i * n) (omega arith) in
    (negsuc (suc k * q - 1), e ∙ ap (λ i. r -ℤ pos i) p)

-- the lowest bits stay as they are
pub narrow : (w : ℕ) (z : ℤ) → 2 ≤ w → w ≤ 32 → wrapped w (int_wrap w64 z) ≡ wrapped w z
narrow w z low high =
    let d = Differ-wrapped 64 z in
    let e = more z (wrapped 64 z) d.0 (2 ^ (64 - w)) (2 * half w) (2 * half 64) (pow_pos (64 - w)) (sizes w low high) d.1 in
    ap (wrapped w) (is_wrapped z) ∙ sym (wrapped-same w z (wrapped 64 z) e)

pub made : (w : ℕ) (z y r : ℤ) → 2 ≤ w → w ≤ 32 → IsWord w r → y ≡ int_wrap w64 z → r ≡ wrapped w y → to_z w64 (of_z w64 r) ≡ wrapped w z
made w z y r low high word ey er = to_z-of_z w64 r (word_fits w r high word) ∙ er ∙ ap (wrapped w) ey ∙ narrow w z low high

-- ---- quotients

-- only -2^63 / -1 is too large
pub quotient_fits : (x y : ℤ) → FitsSigned w64 x → int_eq y (pos 0) ≡ false → int_eq y (negsuc 0) ≡ false → FitsSigned w64 (int_div x y)
quotient_fits x (pos zero) f nz nm = absurd (true≢false (sym ((Decides-int_eq (pos 0) (pos 0)).1 refl) ∙ nz))
quotient_fits x (pos (suc b)) f nz nm = quot_fits w64 x (pos (suc b)) f (omega (arith, ints))
quotient_fits x (negsuc zero) f nz nm = absurd (true≢false (sym ((Decides-int_eq (negsuc 0) (negsuc 0)).1 refl) ∙ nm))
quotient_fits (pos a) (negsuc (suc b)) f nz nm = omega (arith, ints, div-le_self a (suc (suc b)))
quotient_fits (negsuc a) (negsuc (suc b)) f nz nm =
    let less : suc a / suc (suc b) < suc a = div-lt_self (omega arith) (omega arith) in
    omega (arith, ints, less)

pub over_minus_one : (x : ℤ) → int_div x (negsuc 0) ≡ neg_ℤ x
over_minus_one (pos a) = ap (λ n. neg_ℤ (pos n)) (omega arith)
over_minus_one (negsuc a) = ap pos (omega arith)

-- where the code finds that y is -1
pub over_found : (x y : ℤ) → y ≡ negsuc 0 → int_div x y ≡ neg_ℤ x
over_found x y e = ap (int_div x) e ∙ over_minus_one x

pub not_minus_one : (y : ℤ) → (of_z w64 y ≡ 18446744073709551615 → ⊥) → int_eq y (negsuc 0) ≡ false
not_minus_one y h = by (int_eq y (negsuc 0)) refl
  where
    by : (b : Bool) → int_eq y (negsuc 0) ≡ b → b ≡ false
    by true e = absurd (h (ap (of_z w64) ((Decides-int_eq y (negsuc 0)).0 e)))
    by false e = refl
