-- One more bit of words that are made bit by bit.
use Rattle.std.proofs.Common.{◌≡◌, ℕ, zero, suc, ◌≤◌, ◌+◌, ◌-◌, ◌*◌, ◌/◌, ◌%◌, ◌^◌, ◌<◌, ◌==◌, Bool, true, false, not, ◌||◌, List, [], ◌∷◌, ◌++◌, length, take, refl, sym, ap, ◌∙◌, arith, if◌then◌else◌, nat_eq, nat_lt, replicate}
use Rattle.std.proofs.lemmas.Bool.Decides.{nat_tests}
use Rattle.std.proofs.lemmas.Nat.{mod-pow-add}
use Rattle.sk_base.specs.Word.{half}
use Rattle.sk_gates.specs.declared.bit.Bit.{Bit}
use Rattle.sk_gates.specs.declared.bit.Bit.TheVariants.{Constant}
use Rattle.std.proofs.lemmas.List.Elements.{All-nil, All-cons}
use Rattle.sk_gates.specs.Bits.{bit_true, differ, reach, AreOver}
use Rattle.sk_gates.specs.Words.{digit, number, bits_word}
use Rattle.sk_gates.proofs.WordLaws.{bits_push, bits_more, bits_top, bits_low_below, power_more, at}
use Rattle.sk_cnf.specs.Leaves.{number_of}
use Rattle.sk_cnf.proofs.NumberLaws.{number_more, number_none}

-- ---- words that are turned where a condition holds

pub flip_none : (v : ℕ → Bool) (f bs : List Bit) (c : Bit) → f ≡ [] → bits_word v f ≡ (if bit_true v c then 2 ^ 0 - 1 - bits_word v (take 0 bs) else bits_word v (take 0 bs))
unfolding number
flip_none v f bs c e = rw e (by (bit_true v c))
  where
    by : (t : Bool) → bits_word v [] ≡ (if t then 2 ^ 0 - 1 - bits_word v [] else bits_word v [])
    by true = refl
    by false = refl

pub flip_step : (v : ℕ → Bool) (f bs : List Bit) (i : ℕ) (x y c : Bit) → length f ≡ i → i < length bs → x ≡ at bs i → bit_true v y ≡ differ (bit_true v x) (bit_true v c)
    → bits_word v f ≡ (if bit_true v c then 2 ^ i - 1 - bits_word v (take i bs) else bits_word v (take i bs))
    → bits_word v (f ++ y ∷ []) ≡ (if bit_true v c then 2 ^ (i + 1) - 1 - bits_word v (take (i + 1) bs) else bits_word v (take (i + 1) bs))
flip_step v f bs i x y c long within is turned before =
    rw (bits_push v f y, long, bits_more v bs i within, power_more i, turned, is, before) (by (bit_true v (at bs i)) (bit_true v c) (bits_low_below v bs i (omega arith)))
  where
    by : (a b : Bool) → bits_word v (take i bs) < 2 ^ i → (if b then 2 ^ i - 1 - bits_word v (take i bs) else bits_word v (take i bs)) + 2 ^ i * digit (differ a b)
        ≡ (if b then 2 * 2 ^ i - 1 - (bits_word v (take i bs) + 2 ^ i * digit a) else bits_word v (take i bs) + 2 ^ i * digit a)
    by true true h = omega (arith, h)
    by true false h = omega (arith, h)
    by false true h = omega (arith, h)
    by false false h = omega (arith, h)

-- ---- words that are compared

pub none_apart : (v : ℕ → Bool) (a b : List Bit) → false ≡ not (nat_eq (bits_word v (take 0 a)) (bits_word v (take 0 b)))
unfolding number
none_apart v a b = refl

apart_top : (p m n : ℕ) (a b : Bool) → m < p → n < p → not (nat_eq (m + p * digit a) (n + p * digit b)) ≡ (not (nat_eq m n) || differ a b)
apart_top p m n true true h k = by (nat_eq m n) refl
  where
    by : (t : Bool) → nat_eq m n ≡ t → not (nat_eq (m + p * 1) (n + p * 1)) ≡ (not t || false)
    by true e = let s : nat_eq (m + p * 1) (n + p * 1) ≡ true = grind (arith, nat_tests) in rw s refl
    by false e = let s : nat_eq (m + p * 1) (n + p * 1) ≡ false = grind (arith, nat_tests) in rw s refl
apart_top p m n false false h k = by (nat_eq m n) refl
  where
    by : (t : Bool) → nat_eq m n ≡ t → not (nat_eq (m + p * 0) (n + p * 0)) ≡ (not t || false)
    by true e = let s : nat_eq (m + p * 0) (n + p * 0) ≡ true = grind (arith, nat_tests) in rw s refl
    by false e = let s : nat_eq (m + p * 0) (n + p * 0) ≡ false = grind (arith, nat_tests) in rw s refl
apart_top p m n true false h k =
    let s : nat_eq (m + p * 1) (n + p * 0) ≡ false = grind (arith, nat_tests) in
    rw s (by (not (nat_eq m n)))
  where
    by : (t : Bool) → true ≡ (t || true)
    by true = refl
    by false = refl
apart_top p m n false true h k =
    let s : nat_eq (m + p * 0) (n + p * 1) ≡ false = grind (arith, nat_tests) in
    rw s (by (not (nat_eq m n)))
  where
    by : (t : Bool) → true ≡ (t || true)
    by true = refl
    by false = refl

pub apart_step : (v : ℕ → Bool) (a b : List Bit) (i : ℕ) (old here new x y : Bit) → i < length a → i < length b → x ≡ at a i → y ≡ at b i
    → bit_true v old ≡ not (nat_eq (bits_word v (take i a)) (bits_word v (take i b)))
    → bit_true v here ≡ differ (bit_true v x) (bit_true v y)
    → bit_true v new ≡ (bit_true v old || bit_true v here)
    → bit_true v new ≡ not (nat_eq (bits_word v (take (i + 1) a)) (bits_word v (take (i + 1) b)))
apart_step v a b i old here new x y la lb ex ey before differs is =
    rw (bits_more v a i la, bits_more v b i lb, is, before, differs, ex, ey)
    (sym (apart_top (2 ^ i) _ _ (bit_true v (at a i)) (bit_true v (at b i)) (bits_low_below v a i (omega arith)) (bits_low_below v b i (omega arith))))

-- ---- numbers that are given

pub given_none : (v : ℕ → Bool) (bs : List Bit) (m : ℕ) → bs ≡ [] → bits_word v bs ≡ m % 2 ^ 0
unfolding number
given_none v bs m e = rw e (omega arith)

pub given_step : (v : ℕ → Bool) (bs : List Bit) (m i : ℕ) (b : Bool) → length bs ≡ i → b ≡ (m / 2 ^ i % 2 == 1) → bits_word v bs ≡ m % 2 ^ i → bits_word v (bs ++ Constant b ∷ []) ≡ m % 2 ^ (i + 1)
given_step v bs m i b long is before =
    rw (bits_push v bs (Constant b), long, before, is)
    (let e : 1 + i ≡ i + 1 = omega arith in
    let s : m % 2 ^ (i + 1) ≡ m / 2 ^ i % 2 * 2 ^ i + m % 2 ^ i = ap (λ k. m % 2 ^ k) (sym e) ∙ mod-pow-add m 1 i in
    let p = ap (λ x. 2 ^ i * x) (one (m / 2 ^ i)) in
    rw s (omega (arith, p)))
  where
    one : (q : ℕ) → digit (q % 2 == 1) ≡ q % 2
    one q = grind (arith, nat_tests)

-- ---- words of leaves

pub leaves_none : (v : ℕ → Bool) (bs : List Bit) (f : ℕ → Bool) → bs ≡ [] → bits_word v bs ≡ number_of 0 f
unfolding number
leaves_none v bs f e = rw (e, number_none f) refl

pub leaves_step : (v : ℕ → Bool) (bs : List Bit) (f : ℕ → Bool) (i : ℕ) (b : Bit) → length bs ≡ i → bit_true v b ≡ f i → bits_word v bs ≡ number_of i f → bits_word v (bs ++ b ∷ []) ≡ number_of (i + 1) f
leaves_step v bs f i b long is before = rw (bits_push v bs b, long, before, is, number_more i f) refl

-- ---- the sign

pub sign_top : (v : ℕ → Bool) (bs : List Bit) (low : ℕ) → low + 1 ≡ length bs → bit_true v (at bs low) ≡ not (nat_lt (bits_word v bs) (half (length bs)))
sign_top v bs low e =
    let h : length bs - 1 ≡ low = omega arith in
    rw (h, bits_top v bs low e) (by (bit_true v (at bs low)) (bits_low_below v bs low (omega arith)))
  where
    by : (b : Bool) → bits_word v (take low bs) < 2 ^ low → b ≡ not (nat_lt (bits_word v (take low bs) + 2 ^ low * digit b) (2 ^ low))
    by true h = let s : nat_lt (bits_word v (take low bs) + 2 ^ low * 1) (2 ^ low) ≡ false = grind (arith, nat_tests) in rw s refl
    by false h = let s : nat_lt (bits_word v (take low bs) + 2 ^ low * 0) (2 ^ low) ≡ true = grind (arith, nat_tests) in rw s refl

-- ---- the number 0

pub zeros_word : (v : ℕ → Bool) (n m : ℕ) → bits_word v (take n (replicate m (Constant false))) ≡ 0
unfolding number
zeros_word v zero m = refl
zeros_word v (suc n) zero = refl
zeros_word v (suc n) (suc m) = let ih = zeros_word v n m in omega (arith, ih)

pub zeros_over : (vars n m : ℕ) → AreOver vars (take n (replicate m (Constant false)))
zeros_over vars zero m = All-nil (λ b. reach b ≤ vars)
zeros_over vars (suc n) zero = All-nil (λ b. reach b ≤ vars)
zeros_over vars (suc n) (suc m) = All-cons (λ b. reach b ≤ vars) (Constant false) (take n (replicate m (Constant false))) (omega arith) (zeros_over vars n m)
