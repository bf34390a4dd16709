-- The laws of words.
use Rattle.std.proofs.Common.{◌≡◌, ◌≤◌, ◌<ℤ◌, ◌≤ℤ◌, pos, negsuc, ℕ, zero, suc, ◌+◌, ◌-◌, ◌*◌, ◌<◌, ◌^◌, ◌%◌, ◌/◌, w64, ℤ, ◌+ℤ◌, ◌-ℤ◌, ◌*ℤ◌, to_z, of_z, arith, ap, sym, refl, ◌∙◌, Bool, true, false, subst, if◌then◌else◌, ltb, unsigned_abs, SFits, true≢false}
use Rattle.std.proofs.Math.Pow.{pow_mono, pow_pos}
use Rattle.std.proofs.lemmas.Int.{ints, by_lt_z, int_rem_euclid_is}
use Rattle.std.proofs.Math.Nat.{add-mod, mod-eq_of_lt, mul-le-mul_left, mod-lt, mod-add-div', add-mul-mod_self_right}
use Rattle.std.proofs.lemmas.Bool.Decides.{nat_tests}
use Rattle.std.specs.Int.{int_rem_euclid}
use Rattle.std.specs.Int.Signed.{lt_z}
use Rattle.std.proofs.Math.Dec.{T}
use Rattle.sk_base.specs.Word.{wrapped, half, pattern, signed, IsWord, Differ}

T-true : (b : Bool) → T b → b ≡ true
T-true true t = refl
T-true false t = absurd t

rem_euclid_bound : (a : ℤ) (n : ℕ) → 0 < n → (m : ℕ) × (int_rem_euclid a (pos n) ≡ pos m) × (m < n)
rem_euclid_bound (pos a) n h = (a % n, refl, omega arith)
rem_euclid_bound (negsuc a) n h = (n - 1 - a % n, refl, omega arith)

pub half_pos : (w : ℕ) → 0 < half w
half_pos w = pow_pos (w - 1)

pub half_le : (w : ℕ) → w ≤ 32 → half w ≤ 2 ^ 31
half_le w h = pow_mono {i = w - 1} {j = 31} (omega arith)

pub pattern_below : (w : ℕ) (z : ℤ) → pattern w z < 2 * half w
pattern_below w z =
    let b = rem_euclid_bound z (2 * half w) (omega (arith, half_pos w)) in
    rw b.1 b.2

pub IsWord-signed : (w m : ℕ) → m < 2 * half w → IsWord w (signed w m)
IsWord-signed w m h = by (ltb m (half w)) refl
  where
    by : (b : Bool) → ltb m (half w) ≡ b → IsWord w (if b then pos m else (pos m -ℤ pos (2 * half w)))
    by true e = let l : m < half w = grind (arith, nat_tests) in record { low = omega (arith, ints); high = omega (arith, ints) }
    by false e = let l : half w ≤ m = grind (arith, nat_tests) in record { low = omega (arith, ints); high = omega (arith, ints) }

-- what `wrap` leaves is a word
pub IsWord-wrapped : (w : ℕ) (z : ℤ) → IsWord w (wrapped w z)
unfolding wrapped
IsWord-wrapped w z = IsWord-signed w (pattern w z) (pattern_below w z)

module _ (h : ℕ) (z r : ℤ) (positive : 0 < h) (small : h ≤ 2 ^ 31) (fits : SFits w64 z)
    (is : r ≡ int_rem_euclid (to_z w64 (of_z w64 z)) (to_z w64 (of_z w64 (pos 2 *ℤ to_z w64 h)))) where
  residue : (m : ℕ) × (r ≡ pos m) × (m < 2 * h) × (unsigned_abs (int_rem_euclid z (pos (2 * h))) ≡ m)
  residue =
      let a : to_z w64 (of_z w64 z) ≡ z = omega (arith, ints) in
      let d : to_z w64 (of_z w64 (pos 2 *ℤ to_z w64 h)) ≡ pos (2 * h) = omega (arith, ints) in
      let b = rem_euclid_bound z (2 * h) (omega arith) in
      (b.0, is ∙ (λ i. int_rem_euclid (a i) (d i)) ∙ b.1, b.2, ap unsigned_abs b.1)

  -- the code of `wrap`, at half the number of words
  pub wrap_low : lt_z (to_z w64 (of_z w64 r)) (to_z w64 h) ≡ true → to_z w64 (of_z w64 r) ≡ (let m = unsigned_abs (int_rem_euclid z (pos (2 * h))) in if ltb m h then pos m else (pos m -ℤ pos (2 * h)))
  wrap_low test =
      let x = residue in
      let below : to_z w64 (of_z w64 r) <ℤ to_z w64 h = record { lt = subst T (sym test) tt } in
      let l : x.0 < h = omega (arith, ints, below, x.1, x.2) in
      let t : ltb x.0 h ≡ true = grind (arith, nat_tests) in
      rw (x.3, t) (omega (arith, ints, x.1, x.2))

  pub wrap_high : lt_z (to_z w64 (of_z w64 r)) (to_z w64 h) ≡ false → to_z w64 (of_z w64 (to_z w64 (of_z w64 r) -ℤ to_z w64 (of_z w64 (pos 2 *ℤ to_z w64 h)))) ≡ (let m = unsigned_abs (int_rem_euclid z (pos (2 * h))) in if ltb m h then pos m else (pos m -ℤ pos (2 * h)))
  wrap_high test =
      let x = residue in
      let above : to_z w64 h ≤ℤ to_z w64 (of_z w64 r) = by_lt_z (to_z w64 (of_z w64 r)) (to_z w64 h) (λ b. absurd (true≢false (sym (T-true _ b.lt) ∙ test))) (λ b. b) in
      let l : h ≤ x.0 = omega (arith, ints, above, x.1, x.2) in
      let t : ltb x.0 h ≡ false = grind (arith, nat_tests) in
      rw (x.3, t) (omega (arith, ints, x.1, x.2))

-- ---- the bits of a word

-- a multiple of n brings a number above 0
lift : (z : ℤ) (n : ℕ) → 0 < n → (k : ℕ) × (m : ℕ) × (z +ℤ pos (k * n) ≡ pos m)
lift (pos a) n h = (0, a, omega (arith, ints))
lift (negsuc a) n h =
    let l : suc a ≤ suc a * n = omega (arith, mul-le-mul_left (suc a) h) in
    (suc a, suc a * n - suc a, omega (arith, ints))

-- the bits of a sum are the sum of the bits, without what goes over
pub pattern-add : (w : ℕ) (x y : ℤ) → pattern w (x +ℤ y) ≡ (pattern w x + pattern w y) % (2 * half w)
pattern-add w x y =
    let n = 2 * half w in
    let p : 0 < n = omega (arith, half_pos w) in
    let a = lift x n p in
    let b = lift y n p in
    let both : (x +ℤ y) +ℤ pos ((a.0 + b.0) * n) ≡ pos (a.1 + b.1) = omega (arith, ints, a.2, b.2) in
    let left = int_rem_euclid_is (x +ℤ y) (pos n) n (a.0 + b.0) (a.1 + b.1) p refl both in
    let one = int_rem_euclid_is x (pos n) n a.0 a.1 p refl a.2 in
    let two = int_rem_euclid_is y (pos n) n b.0 b.1 p refl b.2 in
    rw (left, one, two) (add-mod a.1 b.1 n)

-- the bits of the word with these bits
pub pattern-signed : (w m : ℕ) → m < 2 * half w → pattern w (signed w m) ≡ m
pattern-signed w m h = by (ltb m (half w)) refl
  where
    n : ℕ
    n = 2 * half w

    by : (b : Bool) → ltb m (half w) ≡ b → pattern w (if b then pos m else (pos m -ℤ pos (2 * half w))) ≡ m
    by true e = mod-eq_of_lt h
    by false e =
        let one = int_rem_euclid_is (pos m -ℤ pos (2 * half w)) (pos (2 * half w)) (2 * half w) 1 m (omega (arith, half_pos w)) refl (omega (arith, ints)) in
        rw one (mod-eq_of_lt h)

pub pattern-wrapped : (w : ℕ) (z : ℤ) → pattern w (wrapped w z) ≡ pattern w z
unfolding wrapped
pattern-wrapped w z = pattern-signed w (pattern w z) (pattern_below w z)

-- ---- the one word

-- a number is its remainder and a multiple of the divisor
euclid : (z : ℤ) (n : ℕ) → 0 < n → (k : ℤ) × (z ≡ pos (unsigned_abs (int_rem_euclid z (pos n))) +ℤ (k *ℤ pos n))
euclid (pos a) n h =
    let e : a ≡ a % n + a / n * n = sym (mod-add-div' a n) in
    (pos (a / n), omega (arith, ints, e))
euclid (negsuc a) n h =
    let e : a ≡ a % n + a / n * n = sym (mod-add-div' a n) in
    let b : a % n < n = mod-lt a h in
    (negsuc (a / n), omega (arith, ints, e, b))

-- one multiple more
one_more : (k : ℤ) (n : ℕ) → (k +ℤ pos 1) *ℤ pos n ≡ (k *ℤ pos n) +ℤ pos n
one_more (pos k) n = omega (arith, ints)
one_more (negsuc zero) n = omega (arith, ints)
one_more (negsuc (suc k)) n = let e : negsuc (suc k) +ℤ pos 1 ≡ negsuc k = omega (arith, ints) in rw e (omega (arith, ints))

-- a word and what it was wrapped from differ by a multiple of 2^bits
pub Differ-wrapped : (w : ℕ) (z : ℤ) → Differ w z (wrapped w z)
unfolding wrapped
Differ-wrapped w z = by (ltb (pattern w z) (half w)) refl
  where
    by : (b : Bool) → ltb (pattern w z) (half w) ≡ b → Differ w z (if b then pos (pattern w z) else (pos (pattern w z) -ℤ pos (2 * half w)))
    by true e = euclid z (2 * half w) (omega (arith, half_pos w))
    by false e =
        let x = euclid z (2 * half w) (omega (arith, half_pos w)) in
        (x.0 +ℤ pos 1, omega (arith, ints, x.1, one_more x.0 (2 * half w)))

-- a word is left as it is
pub wrapped-word : (w : ℕ) (z : ℤ) → IsWord w z → wrapped w z ≡ z
unfolding wrapped
wrapped-word w (pos a) h =
    let l : a < half w = omega (arith, ints, h.high) in
    let m : a % (2 * half w) ≡ a = mod-eq_of_lt (omega arith) in
    let t : ltb a (half w) ≡ true = grind (arith, nat_tests) in
    rw (m, t) refl
wrapped-word w (negsuc a) h =
    let l : a < half w = omega (arith, ints, h.low) in
    let m : a % (2 * half w) ≡ a = mod-eq_of_lt (omega arith) in
    let t : ltb (2 * half w - 1 - a) (half w) ≡ false = grind (arith, nat_tests) in
    rw (m, t) (omega (arith, ints))

-- a multiple of 2^bits more changes no bit
pattern-more : (w : ℕ) (z : ℤ) (j : ℕ) → pattern w (z +ℤ pos (j * (2 * half w))) ≡ pattern w z
pattern-more w z j =
    let n = 2 * half w in
    let p : 0 < n = omega (arith, half_pos w) in
    let a = lift z n p in
    let more : (z +ℤ pos (j * n)) +ℤ pos (a.0 * n) ≡ pos (a.1 + j * n) = omega (arith, ints, a.2) in
    let left = int_rem_euclid_is (z +ℤ pos (j * n)) (pos n) n a.0 (a.1 + j * n) p refl more in
    let right = int_rem_euclid_is z (pos n) n a.0 a.1 p refl a.2 in
    rw (left, right) (add-mul-mod_self_right a.1 j n)

-- numbers that differ by a multiple of 2^bits have the same bits
pub pattern-same : (w : ℕ) (x y : ℤ) → Differ w x y → pattern w x ≡ pattern w y
pattern-same w x y (pos j, e) =
    let f : x ≡ y +ℤ pos (j * (2 * half w)) = e in
    rw f (pattern-more w y j)
pattern-same w x y (negsuc j, e) =
    let f : y ≡ x +ℤ pos (suc j * (2 * half w)) = omega (arith, ints, e) in
    rw f (sym (pattern-more w x (suc j)))

-- and are wrapped alike
pub wrapped-same : (w : ℕ) (x y : ℤ) → Differ w x y → wrapped w x ≡ wrapped w y
unfolding wrapped
wrapped-same w x y d = ap (signed w) (pattern-same w x y d)

-- there is one word that differs by a multiple
pub only_word : (w : ℕ) (x z : ℤ) → IsWord w x → Differ w z x → x ≡ wrapped w z
only_word w x z h d = sym (wrapped-same w z x d ∙ wrapped-word w x h)
