-- The rows of a product.
use Rattle.std.proofs.Common.{◌≡◌, ℕ, ◌+◌, ◌-◌, ◌*◌, ◌%◌, ◌^◌, ◌<◌, ◌≤◌, Bool, List, length, take, drop, sym, ap, ◌∙◌, arith}
use Rattle.std.proofs.Math.Nat.{mod-add-mod, add-mul-mod_self_left, zero-mod}
use Rattle.std.proofs.lemmas.Nat.{pow-add}
use Rattle.sk_gates.specs.declared.bit.Bit.{Bit}
use Rattle.sk_gates.specs.declared.bit.Bit.TheVariants.{Constant}
use Rattle.sk_gates.specs.Bits.{bit_true}
use Rattle.sk_gates.specs.Words.{digit, number, bits_word}
use Rattle.sk_gates.proofs.WordLaws.{bits_more, at}
use Rattle.sk_gates.proofs.EachLaws.{bits_split}

pub row_none : (v : ℕ → Bool) (a : List Bit) (c : Bit) (shift : ℕ) → 0 ≡ 2 ^ shift * (digit (bit_true v c) * bits_word v (take 0 a))
unfolding number
row_none v a c shift = omega arith

pub product_none : (v : ℕ → Bool) (a b : List Bit) → 0 ≡ (bits_word v a * bits_word v (take 0 b)) % 2 ^ length a
unfolding number
product_none v a b = let e : bits_word v a * 0 ≡ 0 = omega arith in rw e (sym (zero-mod (2 ^ length a)))

all_of : (whole low p q rest t d : ℕ) → whole ≡ low + q * rest → whole * (t + p * d) ≡ (whole * t + p * (d * low)) + (p * q) * (d * rest)
all_of whole low p q rest t d e = rw e (omega arith)

-- a product and one row more, modulo the number of all words: what of the row is dropped is a multiple of it
row_added : (m whole low p q rest t d sum row : ℕ) → m ≡ p * q → whole ≡ low + q * rest → sum ≡ (whole * t) % m → row ≡ p * (d * low) → (sum + row + 0) % m ≡ (whole * (t + p * d)) % m
row_added m whole low p q rest t d sum row em ew es er =
    let plain : sum + row + 0 ≡ (whole * t) % m + p * (d * low) = omega (arith, es, er) in
    ap (λ x. x % m) plain ∙ mod-add-mod (whole * t) m (p * (d * low))
    ∙ sym (ap (λ x. x % m) (all_of whole low p q rest t d ew ∙ ap (λ x. (whole * t + p * (d * low)) + x * (d * rest)) (sym em)) ∙ add-mul-mod_self_left (whole * t + p * (d * low)) m (d * rest))

pub product_step : (v : ℕ → Bool) (a b : List Bit) (i : ℕ) (sum row Sum Row next : List Bit) (x : Bit) → i < length a → i < length b → length sum ≡ length a → x ≡ at b i → Sum ≡ sum → Row ≡ row
    → bits_word v sum ≡ (bits_word v a * bits_word v (take i b)) % 2 ^ length a
    → bits_word v row ≡ 2 ^ i * (digit (bit_true v x) * bits_word v (take (length a - i) a))
    → bits_word v next ≡ (bits_word v Sum + bits_word v Row + digit (bit_true v (Constant Rattle.std.proofs.Common.false))) % 2 ^ length Sum
    → bits_word v next ≡ (bits_word v a * bits_word v (take (i + 1) b)) % 2 ^ length a
product_step v a b i sum row Sum Row next x la lb long is es er before made added =
    let low = length a - i in
    let whole : i + low ≡ length a = omega arith in
    let power : 2 ^ length a ≡ 2 ^ i * 2 ^ low = ap (λ k. 2 ^ k) (sym whole) ∙ pow-add 2 i low in
    rw (bits_more v b i lb)
    (added
    ∙ ap (λ z. (bits_word v z + bits_word v Row + 0) % 2 ^ length z) es
    ∙ ap (λ z. (bits_word v sum + bits_word v z + 0) % 2 ^ length sum) er
    ∙ ap (λ k. (bits_word v sum + bits_word v row + 0) % 2 ^ k) long
    ∙ row_added (2 ^ length a) (bits_word v a) (bits_word v (take low a)) (2 ^ i) (2 ^ low) (bits_word v (drop low a)) (bits_word v (take i b)) (digit (bit_true v (at b i))) (bits_word v sum) (bits_word v row) power (bits_split v a low (omega arith)) before (made ∙ ap (λ z. 2 ^ i * (digit (bit_true v z) * bits_word v (take low a))) is))
