-- A sum bit by bit is the sum of the numbers.
use Rattle.std.proofs.Common.{arith, ◌≡◌, ℕ, suc, ◌+◌, ◌-◌, ◌*◌, ◌/◌, ◌%◌, ◌<◌, ◌≤◌, Bool, true, false, List, [], ◌∷◌, ◌++◌, length, drop, refl, sym, ap, ◌∙◌, if◌then◌else◌, append_assoc, append-nil}
use Rattle.std.proofs.lemmas.List.{drop_all}
use Rattle.std.specs.Prelude.{◌==◌, replicate}
use Rattle.sk_model.specs.Operators.{number_of, lowest, sum_of, pairwise}
use Rattle.sk_interp.specs.Ripple.{ripple, sum_bit, carry_bit}

abbrev one : Bool → ℕ
one b = if b then 1 else 0

low : (n k : ℕ) → (n + 2 * k) % 2 ≡ n % 2
low n k = omega arith

high : (n k : ℕ) → (n + 2 * k) / 2 ≡ k + n / 2
high n k = omega arith

low_bit : (x y c : Bool) → ((one x + one y + one c) % 2 == 1) ≡ sum_bit x y c
low_bit true true true = refl
low_bit true true false = refl
low_bit true false true = refl
low_bit true false false = refl
low_bit false true true = refl
low_bit false true false = refl
low_bit false false true = refl
low_bit false false false = refl

high_bit : (x y c : Bool) → (one x + one y + one c) / 2 ≡ one (carry_bit x y c)
high_bit true true true = refl
high_bit true true false = refl
high_bit true false true = refl
high_bit true false false = refl
high_bit false true true = refl
high_bit false true false = refl
high_bit false false true = refl
high_bit false false false = refl

step : (x y c : Bool) (k n len : ℕ) (r : List Bool) → n ≡ one x + one y + one c + 2 * k → r ≡ lowest len (k + one (carry_bit x y c)) → sum_bit x y c ∷ r ≡ ((n % 2 == 1) ∷ lowest len (n / 2))
step x y c k n len r e h =
    let l : (n % 2 == 1) ≡ sum_bit x y c = ap (λ m. m % 2 == 1) e ∙ ap (λ m. m == 1) (low (one x + one y + one c) k) ∙ low_bit x y c in
    let u : n / 2 ≡ k + one (carry_bit x y c) = ap (λ m. m / 2) e ∙ high (one x + one y + one c) k ∙ ap (λ m. k + m) (high_bit x y c) in
    rw (l, u) (ap (λ s. sum_bit x y c ∷ s) h)

ripple_is : (a b : List Bool) (c : Bool) → ripple a b c ≡ lowest (length a) (number_of a + number_of b + one c)
ripple_is [] b c = refl
ripple_is (x ∷ xs) [] c = step x false c (number_of xs + 0) _ (length xs) _ (omega arith) (ripple_is xs [] (carry_bit x false c))
ripple_is (x ∷ xs) (y ∷ ys) c = step x y c (number_of xs + number_of ys) _ (length xs) _ (omega arith) (ripple_is xs ys (carry_bit x y c))

pub sum_is : (a b : List Bool) → ripple a b false ≡ sum_of a b
sum_is a b = ripple_is a b false ∙ ap (lowest (length a)) (omega arith)

-- one more copy
pub copy_on : {A : Type 0} (vs : List A) (v : A) (n k : ℕ) → k < n → vs ++ replicate (n - k) v ≡ (vs ++ v ∷ []) ++ replicate (n - (k + 1)) v
copy_on vs v n k h =
    let e : n - k ≡ suc (n - (k + 1)) = omega arith in
    ap (λ m. vs ++ replicate m v) e ∙ sym (append_assoc vs (v ∷ []) (replicate (n - (k + 1)) v))

-- where the first number has ended
pub ripple_done : (made a rest b : List Bool) (c : Bool) (i : ℕ) → length a ≤ i → made ++ ripple (drop i a) rest c ≡ ripple a b false → made ≡ sum_of a b
ripple_done made a rest b c i h e =
    let none : drop i a ≡ [] = drop_all i a h in
    let same = rw none at e in
    sym (append-nil made) ∙ same ∙ sum_is a b

-- where the second array has ended
pub pairwise_done : (f : Bool → Bool → Bool) (made xs rest all : List Bool) → length rest < 1 → made ++ pairwise f xs rest ≡ all → made ≡ all
pairwise_done f made xs (y ∷ rest) all h e = absurd (omega (arith, h))
pairwise_done f made [] [] all h e = sym (append-nil made) ∙ e
pairwise_done f made (x ∷ xs) [] all h e = sym (append-nil made) ∙ e
