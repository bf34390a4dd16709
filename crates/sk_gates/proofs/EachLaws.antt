-- Words made bit by bit, and words that are cut in two.
use Rattle.std.proofs.Common.{◌≡◌, ℕ, zero, suc, ◌+◌, ◌*◌, ◌^◌, ◌<◌, ◌≤◌, Bool, true, false, not, ◌&&◌, List, [], ◌∷◌, ◌++◌, length, take, drop, refl, ap, ◌∙◌, arith, if◌then◌else◌}
use Rattle.sk_gates.specs.declared.bit.Bit.{Bit}
use Rattle.sk_gates.specs.declared.bit.Bit.TheVariants.{Constant}
use Rattle.sk_gates.specs.Bits.{bit_true, choose}
use Rattle.sk_gates.specs.Words.{digit, number, bits_word}
use Rattle.sk_gates.proofs.WordLaws.{bits_push, bits_more, at, power_more}

pub bits_none : (v : ℕ → Bool) (bs : List Bit) → bs ≡ [] → bits_word v bs ≡ 0
unfolding number
bits_none v bs e = ap (bits_word v) e

pub bits_zero : (v : ℕ → Bool) (bs : List Bit) → bits_word v (bs ++ Constant false ∷ []) ≡ bits_word v bs
bits_zero v bs = bits_push v bs (Constant false) ∙ omega arith

-- the lower bits of a word, and those above
pub bits_split : (v : ℕ → Bool) (bs : List Bit) (k : ℕ) → k ≤ length bs → bits_word v bs ≡ bits_word v (take k bs) + 2 ^ k * bits_word v (drop k bs)
unfolding number
bits_split v bs zero h = omega arith
bits_split v [] (suc k) h = absurd (omega (arith, h))
bits_split v (b ∷ bs) (suc k) h =
    let ih = bits_split v bs k (omega (arith, h)) in
    let power : 2 ^ suc k ≡ 2 * 2 ^ k = omega arith in
    rw power (omega (arith, ih))

pub opposite_none : (v : ℕ → Bool) (s bs : List Bit) → s ≡ [] → bits_word v s + bits_word v (take 0 bs) + 1 ≡ 2 ^ 0
unfolding number
opposite_none v s bs e = rw e (omega arith)

pub kept_none : (v : ℕ → Bool) (s bs : List Bit) (c : Bit) → s ≡ [] → bits_word v s ≡ digit (bit_true v c) * bits_word v (take 0 bs)
unfolding number
kept_none v s bs c e = rw e (omega arith)

pub chosen_none : (v : ℕ → Bool) (s a b : List Bit) (c : Bit) → s ≡ [] → bits_word v s ≡ (if bit_true v c then bits_word v (take 0 a) else bits_word v (take 0 b))
unfolding number
chosen_none v s a b c e = rw e (by (bit_true v c))
  where
    by : (t : Bool) → bits_word v [] ≡ (if t then bits_word v [] else bits_word v [])
    by true = refl
    by false = refl

-- one more bit of the opposite of a word
pub opposite_step : (v : ℕ → Bool) (o bs : List Bit) (i : ℕ) (x y : Bit) → length o ≡ i → i < length bs → x ≡ at bs i → bit_true v y ≡ not (bit_true v x)
    → bits_word v o + bits_word v (take i bs) + 1 ≡ 2 ^ i
    → bits_word v (o ++ y ∷ []) + bits_word v (take (i + 1) bs) + 1 ≡ 2 ^ (i + 1)
opposite_step v o bs i x y long within is turned before =
    rw (bits_push v o y, long, bits_more v bs i within, power_more i, turned, is) (by (bit_true v (at bs i)))
  where
    by : (b : Bool) → (bits_word v o + 2 ^ i * digit (not b)) + (bits_word v (take i bs) + 2 ^ i * digit b) + 1 ≡ 2 * 2 ^ i
    by true = omega (arith, before)
    by false = omega (arith, before)

-- one more bit of a word that is kept where a bit is true
pub kept_step : (v : ℕ → Bool) (s bs : List Bit) (i j p : ℕ) (x y c : Bit) → length s ≡ j → 2 ^ j ≡ p * 2 ^ i → i < length bs → x ≡ at bs i → bit_true v y ≡ (bit_true v x && bit_true v c)
    → bits_word v s ≡ p * (digit (bit_true v c) * bits_word v (take i bs))
    → bits_word v (s ++ y ∷ []) ≡ p * (digit (bit_true v c) * bits_word v (take (i + 1) bs))
kept_step v s bs i j p x y c long power within is both before =
    rw (bits_push v s y, long, power, bits_more v bs i within, both, is, before) (by (bit_true v (at bs i)) (bit_true v c))
  where
    by : (a b : Bool) → p * (digit b * bits_word v (take i bs)) + (p * 2 ^ i) * digit (a && b) ≡ p * (digit b * (bits_word v (take i bs) + 2 ^ i * digit a))
    by true true = omega arith
    by true false = omega arith
    by false true = omega arith
    by false false = omega arith

-- one more bit of a word that is chosen
pub chosen_step : (v : ℕ → Bool) (s a b : List Bit) (i : ℕ) (x y z c : Bit) → length s ≡ i → i < length a → i < length b → x ≡ at a i → y ≡ at b i → bit_true v z ≡ choose (bit_true v c) (bit_true v x) (bit_true v y)
    → bits_word v s ≡ (if bit_true v c then bits_word v (take i a) else bits_word v (take i b))
    → bits_word v (s ++ z ∷ []) ≡ (if bit_true v c then bits_word v (take (i + 1) a) else bits_word v (take (i + 1) b))
chosen_step v s a b i x y z c long la lb ex ey is before =
    rw (bits_push v s z, long, bits_more v a i la, bits_more v b i lb, is, ex, ey, before) (by (bit_true v c))
  where
    by : (t : Bool) → (if t then bits_word v (take i a) else bits_word v (take i b)) + 2 ^ i * digit (choose t (bit_true v (at a i)) (bit_true v (at b i)))
        ≡ (if t then bits_word v (take i a) + 2 ^ i * digit (bit_true v (at a i)) else bits_word v (take i b) + 2 ^ i * digit (bit_true v (at b i)))
    by true = refl
    by false = refl

-- a sum with the opposite of a word and 1
pub subtracted : (s p fits a b o S : ℕ) → s + p * fits ≡ a + S + 1 → S ≡ o → o + b + 1 ≡ p → s + p * fits + b ≡ a + p
subtracted s p fits a b o S sum e opposite = omega (arith, sum, e, opposite)
