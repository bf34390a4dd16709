-- Numbers of lists of bits, digit by digit.
use Rattle.std.proofs.Common.{◌≡◌, ℕ, suc, ◌+◌, ◌-◌, ◌*◌, ◌%◌, ◌^◌, ◌<◌, ◌≤◌, Bool, true, false, List, [], ◌∷◌, ◌++◌, map, length, take, get_or, refl, sym, ap, ◌∙◌, arith, nat_lt, if◌then◌else◌, ℤ, pos, negsuc, ◌-ℤ◌}
use Rattle.std.proofs.lemmas.Int.{ints}
use Rattle.sk_clause.specs.declared.lit.Lit.{Lit}
use Rattle.sk_clause.specs.Meaning.{lit_true}
use Rattle.std.specs.Prelude.{int_lt}
use Rattle.std.proofs.lemmas.List.{length-take-le, take_all, map_push, map_more, length-map}
use Rattle.std.proofs.lemmas.Bool.Decides.{nat_tests}
use Rattle.sk_gates.specs.declared.bit.Bit.{Bit}
use Rattle.sk_gates.specs.declared.bit.Bit.TheVariants.{Constant, Literal}
use Rattle.sk_gates.specs.Bits.{bit_true, differ, choose}
use Rattle.sk_gates.specs.Words.{digit, number, word, bits_word, is_less}
use Rattle.sk_gates.proofs.BitLaws.{adder_table}

pub number_push : (bs : List Bool) (b : Bool) → number (bs ++ b ∷ []) ≡ number bs + 2 ^ length bs * digit b
unfolding number
number_push [] b = omega arith
number_push (x ∷ xs) b =
    let ih = number_push xs b in
    let power : 2 ^ suc (length xs) ≡ 2 * 2 ^ length xs = omega arith in
    rw power (omega (arith, ih))

digit_small : (b : Bool) → digit b ≤ 1
digit_small true = omega arith
digit_small false = omega arith

pub number_below : (bs : List Bool) → number bs < 2 ^ length bs
unfolding number
number_below [] = omega arith
number_below (x ∷ xs) =
    let ih = number_below xs in
    let power : 2 ^ suc (length xs) ≡ 2 * 2 ^ length xs = omega arith in
    rw power (omega (arith, ih, digit_small x))

pub bits_push : (v : ℕ → Bool) (bs : List Bit) (b : Bit) → bits_word v (bs ++ b ∷ []) ≡ bits_word v bs + 2 ^ length bs * digit (bit_true v b)
bits_push v bs b =
    ap number (map_push (bit_true v) bs b) ∙ number_push (map (bit_true v) bs) (bit_true v b)
    ∙ ap (λ k. number (map (bit_true v) bs) + 2 ^ k * digit (bit_true v b)) (length-map bs (bit_true v))

pub bits_below : (v : ℕ → Bool) (bs : List Bit) → bits_word v bs < 2 ^ length bs
bits_below v bs = rw (length-map bs (bit_true v)) at (number_below (map (bit_true v) bs))

-- the bit of number i, as contracts read it
abbrev pub at : List Bit → ℕ → Bit
at bs i = get_or bs i (Constant false)

pub bits_more : (v : ℕ → Bool) (bs : List Bit) (i : ℕ) → i < length bs → bits_word v (take (i + 1) bs) ≡ bits_word v (take i bs) + 2 ^ i * digit (bit_true v (at bs i))
bits_more v bs i h =
    ap (bits_word v) (Rattle.std.proofs.lemmas.List.take_more bs i (Constant false) h) ∙ bits_push v (take i bs) (at bs i)
    ∙ ap (λ k. bits_word v (take i bs) + 2 ^ k * digit (bit_true v (at bs i))) (length-take-le i bs (omega arith))

pub bits_top : (v : ℕ → Bool) (bs : List Bit) (low : ℕ) → low + 1 ≡ length bs → bits_word v bs ≡ bits_word v (take low bs) + 2 ^ low * digit (bit_true v (at bs low))
bits_top v bs low e = ap (bits_word v) (sym (take_all (low + 1) bs (omega arith))) ∙ bits_more v bs low (omega arith)

pub bits_low_below : (v : ℕ → Bool) (bs : List Bit) (i : ℕ) → i ≤ length bs → bits_word v (take i bs) < 2 ^ i
bits_low_below v bs i h = rw (length-take-le i bs h) at (bits_below v (take i bs))

pub power_more : (k : ℕ) → 2 ^ (k + 1) ≡ 2 * 2 ^ k
power_more k = rw Rattle.std.proofs.Math.Numerals.add-one (omega arith)

-- one step of a sum
pub sum_step : (p q n na nb k bs bc ba bb bn : ℕ) → q ≡ 2 * p → n + p * bn ≡ na + nb + k → bs + 2 * bc ≡ ba + bb + bn → (n + p * bs) + q * bc ≡ (na + p * ba) + (nb + p * bb) + k
sum_step p q n na nb k bs bc ba bb bn e before row = rw e (omega (arith, before, ap (λ x. p * x) row))

-- what a number leaves is the number below the modulus from which it differs by a multiple of it
pub mod_is : (m r j x : ℕ) → r < m → r + m * j ≡ x → r ≡ x % m
mod_is m r j x h e =
    sym (Rattle.std.proofs.lemmas.Nat.mod-mul-add j m r h) ∙ ap (λ y. y % m) (let f : j * m + r ≡ x = omega (arith, e) in f)

sum_top : (p n na nb k ds dc da db dn : ℕ) → n + p * dn ≡ na + nb + k → ds + 2 * dc ≡ da + db + dn → (n + p * ds) + (2 * p) * dc ≡ (na + p * da) + (nb + p * db) + k
sum_top p n na nb k ds dc da db dn before row = omega (arith, before, ap (λ x. p * x) row)

pub add_word : (v : ℕ → Bool) (a b x y s : List Bit) (low : ℕ) (c k t : Bit) → low + 1 ≡ length a → length a ≡ length b → length s ≡ length x → x ≡ take low a → y ≡ take low b
    → bits_word v s + 2 ^ length x * digit (bit_true v k) ≡ bits_word v x + bits_word v y + digit (bit_true v c)
    → bit_true v t ≡ differ (differ (bit_true v (at a low)) (bit_true v (at b low))) (bit_true v k)
    → bits_word v (s ++ t ∷ []) ≡ (bits_word v a + bits_word v b + digit (bit_true v c)) % 2 ^ length a
add_word v a b x y s low c k t la lb ls ex ey before is =
    let lx : length x ≡ low = ap length ex ∙ length-take-le low a (omega arith) in
    let ta = bits_top v a low la in
    let tb = bits_top v b low (la ∙ lb) in
    let p = 2 ^ low in
    let carry = choose (differ (bit_true v (at a low)) (bit_true v (at b low))) (bit_true v k) (bit_true v (at a low)) in
    let row = adder_table (bit_true v (at a low)) (bit_true v (at b low)) (bit_true v k) in
    let pw : 2 ^ length a ≡ 2 * 2 ^ low = ap (λ i. 2 ^ i) (sym la) ∙ power_more low in
    let sx : bits_word v s + 2 ^ low * digit (bit_true v k) ≡ bits_word v (take low a) + bits_word v (take low b) + digit (bit_true v c) =
    ap (λ i. bits_word v s + 2 ^ i * digit (bit_true v k)) (sym lx) ∙ before ∙ ap (λ z. bits_word v z + bits_word v y + digit (bit_true v c)) ex ∙ ap (λ z. bits_word v (take low a) + bits_word v z + digit (bit_true v c)) ey in
    let pushed : bits_word v (s ++ t ∷ []) ≡ bits_word v s + 2 ^ low * digit (differ (differ (bit_true v (at a low)) (bit_true v (at b low))) (bit_true v k)) =
    bits_push v s t ∙ ap (λ i. bits_word v s + 2 ^ i * digit (bit_true v t)) (ls ∙ lx) ∙ ap (λ z. bits_word v s + 2 ^ low * digit z) is in
    let total = sum_top (2 ^ low) (bits_word v s) (bits_word v (take low a)) (bits_word v (take low b)) (digit (bit_true v c)) _ (digit carry) (digit (bit_true v (at a low))) (digit (bit_true v (at b low))) (digit (bit_true v k)) sx row in
    let below : bits_word v (s ++ t ∷ []) < 2 * 2 ^ low =
    let b0 = bits_below v (s ++ t ∷ []) in
    let l : length (s ++ t ∷ []) ≡ low + 1 = Rattle.std.proofs.lemmas.List.length_push s t ∙ ap (λ i. i + 1) (ls ∙ lx) in
    rw (l, power_more low) at b0 in
    rw pw (mod_is (2 * 2 ^ low) (bits_word v (s ++ t ∷ [])) (digit carry) _ below
    (ap (λ z. z + (2 * 2 ^ low) * digit carry) pushed ∙ total ∙ sym (ap (λ z. z + bits_word v b + digit (bit_true v c)) ta ∙ ap (λ z. (bits_word v (take low a) + 2 ^ low * digit (bit_true v (at a low))) + z + digit (bit_true v c)) tb)))

-- the top digits decide, where they differ
pub lt_top : (p m n : ℕ) (a b : Bool) → m < p → n < p → nat_lt (m + p * digit a) (n + p * digit b) ≡ choose (differ a b) b (nat_lt m n)
lt_top p m n true true h k = grind (arith, nat_tests)
lt_top p m n true false h k = grind (arith, nat_tests)
lt_top p m n false true h k = grind (arith, nat_tests)
lt_top p m n false false h k = grind (arith, nat_tests)

-- a number below 2p in two's complement
abbrev as_signed : ℕ → ℕ → ℤ
as_signed p x = if nat_lt x p then pos x else (pos x -ℤ pos (2 * p))

as_negative : (p m k : ℕ) → k + 1 + m ≡ p → (pos (m + p * 1) -ℤ pos (2 * p)) ≡ negsuc k
as_negative p m k e = omega (arith, ints)

signed_low : (p m : ℕ) → m < p → as_signed p (m + p * 0) ≡ pos m
signed_low p m h =
    let t : nat_lt (m + p * 0) p ≡ true = grind (arith, nat_tests) in
    rw t (ap pos (omega arith))

signed_high : (p m : ℕ) → m < p → as_signed p (m + p * 1) ≡ negsuc (p - 1 - m)
signed_high p m h =
    let t : nat_lt (m + p * 1) p ≡ false = grind (arith, nat_tests) in
    rw t (as_negative p m (p - 1 - m) (omega arith))

pub signed_lt_top : (p m n : ℕ) (a b : Bool) → m < p → n < p → int_lt (as_signed p (m + p * digit a)) (as_signed p (n + p * digit b)) ≡ choose (differ a b) a (nat_lt m n)
signed_lt_top p m n true true h k = rw (signed_high p m h, signed_high p n k) (grind (arith, nat_tests))
signed_lt_top p m n true false h k = rw (signed_high p m h, signed_low p n k)
signed_lt_top p m n false true h k = rw (signed_low p m h, signed_high p n k)
signed_lt_top p m n false false h k = rw (signed_low p m h, signed_low p n k)

pub less_word : (v : ℕ → Bool) (a b x y : List Bit) (low : ℕ) (s : Bool) (below apart r pick first_top second_top : Bit) → low + 1 ≡ length a → length a ≡ length b → x ≡ take low a → y ≡ take low b
    → bit_true v below ≡ nat_lt (bits_word v x) (bits_word v y)
    → first_top ≡ at a low → second_top ≡ at b low
    → bit_true v apart ≡ differ (bit_true v first_top) (bit_true v second_top)
    → pick ≡ (if s then first_top else second_top)
    → bit_true v r ≡ choose (bit_true v apart) (bit_true v pick) (bit_true v below)
    → bit_true v r ≡ is_less s (length a) (bits_word v a) (bits_word v b)
less_word v a b x y low s below apart r pick first_top second_top la lb ex ey is_below ef es parted is_pick is = by s is_pick
  where
    is_apart : bit_true v apart ≡ differ (bit_true v (at a low)) (bit_true v (at b low))
    is_apart = parted ∙ ap (λ z. differ (bit_true v z) (bit_true v second_top)) ef ∙ ap (λ z. differ (bit_true v (at a low)) (bit_true v z)) es

    under : bit_true v below ≡ nat_lt (bits_word v (take low a)) (bits_word v (take low b))
    under = is_below ∙ ap (λ z. nat_lt (bits_word v z) (bits_word v y)) ex ∙ ap (λ z. nat_lt (bits_word v (take low a)) (bits_word v z)) ey

    picked : (t : Bool) → bit_true v pick ≡ t → bit_true v r ≡ choose (differ (bit_true v (at a low)) (bit_true v (at b low))) t (nat_lt (bits_word v (take low a)) (bits_word v (take low b)))
    picked t e = is ∙ ap (λ z. choose z (bit_true v pick) (bit_true v below)) is_apart ∙ ap (λ z. choose (differ (bit_true v (at a low)) (bit_true v (at b low))) z (bit_true v below)) e ∙ ap (λ z. choose (differ (bit_true v (at a low)) (bit_true v (at b low))) t z) under

    first : bits_word v a ≡ bits_word v (take low a) + 2 ^ low * digit (bit_true v (at a low))
    first = bits_top v a low la

    second : bits_word v b ≡ bits_word v (take low b) + 2 ^ low * digit (bit_true v (at b low))
    second = bits_top v b low (la ∙ lb)

    h : bits_word v (take low a) < 2 ^ low
    h = bits_low_below v a low (omega arith)

    k : bits_word v (take low b) < 2 ^ low
    k = bits_low_below v b low (omega arith)

    halved : length a - 1 ≡ low
    halved = omega arith

    by : (t : Bool) → pick ≡ (if t then first_top else second_top) → bit_true v r ≡ is_less t (length a) (bits_word v a) (bits_word v b)
    by false e = rw (first, second) (picked (bit_true v (at b low)) (ap (bit_true v) (e ∙ es)) ∙ sym (lt_top (2 ^ low) _ _ (bit_true v (at a low)) (bit_true v (at b low)) h k))
    by true e = rw (first, second, halved) (picked (bit_true v (at a low)) (ap (bit_true v) (e ∙ ef)) ∙ sym (signed_lt_top (2 ^ low) _ _ (bit_true v (at a low)) (bit_true v (at b low)) h k))

pub nothing_summed : (v : ℕ → Bool) (s a b : List Bit) (c : Bit) → s ≡ [] → bits_word v s + 2 ^ 0 * digit (bit_true v c) ≡ bits_word v (take 0 a) + bits_word v (take 0 b) + digit (bit_true v c)
unfolding number
nothing_summed v s a b c e = rw e (omega arith)

pub nothing_below : (v : ℕ → Bool) (a b : List Bit) → false ≡ nat_lt (bits_word v (take 0 a)) (bits_word v (take 0 b))
unfolding number
nothing_below v a b = refl

pub less_step : (v : ℕ → Bool) (a b : List Bit) (i : ℕ) (old apart new x y : Bit) → i < length a → i < length b → x ≡ at a i → y ≡ at b i
    → bit_true v old ≡ nat_lt (bits_word v (take i a)) (bits_word v (take i b))
    → bit_true v apart ≡ differ (bit_true v x) (bit_true v y)
    → bit_true v new ≡ choose (bit_true v apart) (bit_true v y) (bit_true v old)
    → bit_true v new ≡ nat_lt (bits_word v (take (i + 1) a)) (bits_word v (take (i + 1) b))
less_step v a b i old apart new x y la lb ex ey before is_apart is =
    rw (bits_more v a i la, bits_more v b i lb)
    (is ∙ ap (λ z. choose z (bit_true v y) (bit_true v old)) is_apart
    ∙ ap (λ z. choose (differ (bit_true v x) (bit_true v y)) (bit_true v y) z) before
    ∙ ap (λ z. choose (differ (bit_true v z) (bit_true v y)) (bit_true v y) (nat_lt (bits_word v (take i a)) (bits_word v (take i b)))) ex
    ∙ ap (λ z. choose (differ (bit_true v (at a i)) (bit_true v z)) (bit_true v z) (nat_lt (bits_word v (take i a)) (bits_word v (take i b)))) ey
    ∙ sym (lt_top (2 ^ i) _ _ (bit_true v (at a i)) (bit_true v (at b i)) (bits_low_below v a i (omega arith)) (bits_low_below v b i (omega arith))))

literals_true : (v : ℕ → Bool) (lits : List Lit) → map (bit_true v) (map Literal lits) ≡ map (lit_true v) lits
literals_true v [] = refl
literals_true v (l ∷ ls) = ap (λ z. lit_true v l ∷ z) (literals_true v ls)

pub bits_of_literals : (v : ℕ → Bool) (lits : List Lit) → bits_word v (map Literal lits) ≡ word v lits
bits_of_literals v lits = ap number (literals_true v lits)

-- what a gate of words says of the literals that were handed in, by way of the lists of bits that were made of them
module _ (v : ℕ → Bool) (a b : List Lit) (x y X Y : List Bit) (ex : X ≡ x) (ey : Y ≡ y) (la : length x ≡ length a) (is_a : bits_word v x ≡ word v a) (is_b : bits_word v y ≡ word v b) where
  pub adder_said : (s S : List Bit) (r : List Lit) (c : Bit) → S ≡ s → bits_word v s ≡ (bits_word v X + bits_word v Y + digit (bit_true v c)) % 2 ^ length X → word v r ≡ bits_word v S
      → word v r ≡ (word v a + word v b + digit (bit_true v c)) % 2 ^ length a
  adder_said s S r c es p q =
      q ∙ ap (bits_word v) es ∙ p
      ∙ ap (λ z. (bits_word v z + bits_word v Y + digit (bit_true v c)) % 2 ^ length z) ex
      ∙ ap (λ z. (bits_word v x + bits_word v z + digit (bit_true v c)) % 2 ^ length x) ey
      ∙ ap (λ k. (bits_word v x + bits_word v y + digit (bit_true v c)) % 2 ^ k) la
      ∙ ap (λ k. (k + bits_word v y + digit (bit_true v c)) % 2 ^ length a) is_a
      ∙ ap (λ k. (word v a + k + digit (bit_true v c)) % 2 ^ length a) is_b

  pub less_said : (s : Bool) (d : Bit) (r : Lit) → bit_true v d ≡ is_less s (length X) (bits_word v X) (bits_word v Y) → lit_true v r ≡ bit_true v d
      → lit_true v r ≡ is_less s (length a) (word v a) (word v b)
  less_said s d r p q =
      q ∙ p
      ∙ ap (λ z. is_less s (length z) (bits_word v z) (bits_word v Y)) ex
      ∙ ap (λ z. is_less s (length x) (bits_word v x) (bits_word v z)) ey
      ∙ ap (λ k. is_less s k (bits_word v x) (bits_word v y)) la
      ∙ ap (λ k. is_less s (length a) k (bits_word v y)) is_a
      ∙ ap (λ k. is_less s (length a) (word v a) k) is_b

  pub product_said : (s S : List Bit) (r : List Lit) → S ≡ s → bits_word v s ≡ (bits_word v X * bits_word v Y) % 2 ^ length X → word v r ≡ bits_word v S
      → word v r ≡ (word v a * word v b) % 2 ^ length a
  product_said s S r es p q =
      q ∙ ap (bits_word v) es ∙ p
      ∙ ap (λ z. (bits_word v z * bits_word v Y) % 2 ^ length z) ex
      ∙ ap (λ z. (bits_word v x * bits_word v z) % 2 ^ length x) ey
      ∙ ap (λ k. (bits_word v x * bits_word v y) % 2 ^ k) la
      ∙ ap (λ k. (k * bits_word v y) % 2 ^ length a) is_a
      ∙ ap (λ k. (word v a * k) % 2 ^ length a) is_b

  pub division_is : (f : ℕ → ℕ → ℕ) (s S : List Bit) (r : List Lit) → S ≡ s → bits_word v s ≡ f (bits_word v X) (bits_word v Y) → word v r ≡ bits_word v S
      → word v r ≡ f (word v a) (word v b)
  division_is f s S r es p q =
      q ∙ ap (bits_word v) es ∙ p
      ∙ ap (λ z. f (bits_word v z) (bits_word v Y)) ex
      ∙ ap (λ z. f (bits_word v x) (bits_word v z)) ey
      ∙ ap (λ k. f k (bits_word v y)) is_a
      ∙ ap (λ k. f (word v a) k) is_b
