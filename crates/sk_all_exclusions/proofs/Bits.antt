-- Numbers by their bits, the lowest first.
use Rattle.std.proofs.Common.{◌≡◌, ℕ, ◌+◌, ◌*◌, ◌/◌, ◌%◌, ◌^◌, ◌<◌, ◌==◌, Bool, true, false, ◌&&◌, List, [], ◌∷◌, refl, sym, ap, ◌∙◌, arith}
use Rattle.std.proofs.lemmas.Bool.{lt-ltb}
use Rattle.std.proofs.lemmas.Bool.Decides.{nat_tests}
use Rattle.std.proofs.Math.Nat.{div-div-eq-div-mul, div-one}
use Rattle.sk_gates.specs.Words.{digit, number}
use Rattle.sk_gates.proofs.WordLaws.{power_more}
use Rattle.sk_all_exclusions.specs.Exclusions.{bit_at}

pub nothing_said : number [] ≡ 0
unfolding number
nothing_said = refl

pub number_more : (b : Bool) (bs : List Bool) → number (b ∷ bs) ≡ digit b + 2 * number bs
unfolding number
number_more b bs = refl

-- a bit behind the first a ones
pub halved : (n a : ℕ) → n / 2 ^ (a + 1) ≡ n / 2 ^ a / 2
halved n a =
    let e : 2 ^ (a + 1) ≡ 2 ^ a * 2 = omega (arith, power_more a) in
    ap (λ p. n / p) e ∙ sym (div-div-eq-div-mul n (2 ^ a) 2)

pub whole : (n : ℕ) → n / 2 ^ 0 ≡ n
whole n = div-one n

digit_is : (q : ℕ) → digit (q % 2 == 1) ≡ q % 2
digit_is q = grind (arith, nat_tests)

-- the lowest bit and half of the number make the number
pub joined : (q : ℕ) → digit (q % 2 == 1) + 2 * (q / 2) ≡ q
joined q = omega (arith, digit_is q)

-- and a bit and a number that make it are these
pub parted : (b : Bool) (m q : ℕ) → digit b + 2 * m ≡ q → (b ≡ (q % 2 == 1)) × (m ≡ q / 2)
parted true m q h =
    let one : q % 2 ≡ 1 = omega (arith, h) in
    (grind (arith, nat_tests, one), omega (arith, h))
parted false m q h =
    let none : q % 2 ≡ 0 = omega (arith, h) in
    (grind (arith, nat_tests, none), omega (arith, h))

-- one of the first 64 bits
pub low_bit : (n k : ℕ) → k < 64 → bit_at n k ≡ (n / 2 ^ k % 2 == 1)
low_bit n k h = ap (λ b. b && (n / 2 ^ k % 2 == 1)) (lt-ltb k 64 h)
