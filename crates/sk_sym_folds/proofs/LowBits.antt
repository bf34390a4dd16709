-- Numbers by their lowest bits.
use Rattle.std.proofs.Common.{◌≡◌, ℕ, zero, suc, ◌<◌, ◌≤◌, ◌+◌, ◌*◌, ◌/◌, ◌%◌, ◌^◌, ◌==◌, nat_lt, true, false, ◌&&◌, ◌||◌, if◌then◌else◌, refl, arith, mod-eq_of_lt}
use Rattle.std.proofs.lemmas.Bool.Decides.{nat_tests}
use Rattle.std.proofs.Math.Nat.{mod-lt}
use Rattle.std.proofs.Math.Pow.{pow_pos}
use Rattle.std.proofs.lemmas.Nat.{mod-pow-add}
use Rattle.sk_dag.specs.Word.{bit_of}
use Rattle.sk_model.specs.Values.{same_bit}
use Rattle.sk_sym_folds.proofs.Makers.{Keeps-refl}

-- two numbers below 2 * p by their highest bit, and the rest
top_same : (p a b x y : ℕ) → a < 2 → b < 2 → x < p → y < p → (a * p + x == b * p + y) ≡ ((x == y) && same_bit (a == 1) (b == 1))
top_same p zero zero x y ha hb hx hy = grind (arith, nat_tests)
top_same p zero (suc zero) x y ha hb hx hy = grind (arith, nat_tests)
top_same p (suc zero) zero x y ha hb hx hy = grind (arith, nat_tests)
top_same p (suc zero) (suc zero) x y ha hb hx hy = grind (arith, nat_tests)
top_same p zero (suc (suc b)) x y ha hb hx hy = absurd (omega arith)
top_same p (suc zero) (suc (suc b)) x y ha hb hx hy = absurd (omega arith)
top_same p (suc (suc a)) b x y ha hb hx hy = absurd (omega arith)

top_above : (p a b x y : ℕ) → a < 2 → b < 2 → x < p → y < p → nat_lt (b * p + y) (a * p + x) ≡ (if b == 1 then (a == 1) && nat_lt y x else (a == 1) || nat_lt y x)
top_above p zero zero x y ha hb hx hy = grind (arith, nat_tests)
top_above p zero (suc zero) x y ha hb hx hy = grind (arith, nat_tests)
top_above p (suc zero) zero x y ha hb hx hy = grind (arith, nat_tests)
top_above p (suc zero) (suc zero) x y ha hb hx hy = grind (arith, nat_tests)
top_above p zero (suc (suc b)) x y ha hb hx hy = absurd (omega arith)
top_above p (suc zero) (suc (suc b)) x y ha hb hx hy = absurd (omega arith)
top_above p (suc (suc a)) b x y ha hb hx hy = absurd (omega arith)

-- the lowest bits are the highest of them, and the rest
top_bit : (n j : ℕ) → n % 2 ^ (j + 1) ≡ (n / 2 ^ j) % 2 * 2 ^ j + n % 2 ^ j
top_bit n j = let e : j + 1 ≡ 1 + j = omega arith in rw e (mod-pow-add n 1 j)

below_two : (n : ℕ) → n % 2 < 2
below_two n = omega arith

below_power : (n j : ℕ) → n % 2 ^ j < 2 ^ j
below_power n j = mod-lt n (pow_pos j)

pub same_none : (n k : ℕ) → (n % 2 ^ 0 == k % 2 ^ 0) ≡ true
same_none n k = let a : n % 2 ^ 0 ≡ 0 = omega arith in let b : k % 2 ^ 0 ≡ 0 = omega arith in rw (a, b) refl

pub same_more : (n k j : ℕ) → (n % 2 ^ (j + 1) == k % 2 ^ (j + 1)) ≡ ((n % 2 ^ j == k % 2 ^ j) && same_bit (bit_of n j) (bit_of k j))
same_more n k j =
    rw (top_bit n j, top_bit k j)
    (top_same (2 ^ j) (n / 2 ^ j % 2) (k / 2 ^ j % 2) (n % 2 ^ j) (k % 2 ^ j) (below_two _) (below_two _) (below_power n j) (below_power k j))

pub above_none : (n k : ℕ) → nat_lt (k % 2 ^ 0) (n % 2 ^ 0) ≡ false
above_none n k = let a : n % 2 ^ 0 ≡ 0 = omega arith in let b : k % 2 ^ 0 ≡ 0 = omega arith in rw (a, b) refl

pub above_more : (n k j : ℕ) → nat_lt (k % 2 ^ (j + 1)) (n % 2 ^ (j + 1)) ≡ (if bit_of k j then bit_of n j && nat_lt (k % 2 ^ j) (n % 2 ^ j) else bit_of n j || nat_lt (k % 2 ^ j) (n % 2 ^ j))
above_more n k j =
    rw (top_bit n j, top_bit k j)
    (top_above (2 ^ j) (n / 2 ^ j % 2) (k / 2 ^ j % 2) (n % 2 ^ j) (k % 2 ^ j) (below_two _) (below_two _) (below_power n j) (below_power k j))

-- numbers with so many bits are their lowest bits
pub same_whole : (n k w : ℕ) → n < 2 ^ w → k < 2 ^ w → (n % 2 ^ w == k % 2 ^ w) ≡ (n == k)
same_whole n k w hn hk = rw (mod-eq_of_lt hn, mod-eq_of_lt hk) refl

pub above_whole : (n k w : ℕ) → n < 2 ^ w → k < 2 ^ w → nat_lt (k % 2 ^ w) (n % 2 ^ w) ≡ nat_lt k n
above_whole n k w hn hk = rw (mod-eq_of_lt hn, mod-eq_of_lt hk) refl

pub unlike : (n k size : ℕ) → n < size → size ≤ k → false ≡ (n == k)
unlike n k size h l = grind (arith, nat_tests)

pub not_above : (n k size : ℕ) → n < size → size ≤ k → false ≡ nat_lt k n
not_above n k size h l = grind (arith, nat_tests)

pub ruleset matching = (Keeps-refl, same_none, same_more, above_none, above_more)
