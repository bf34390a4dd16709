-- Each list of numbers, one for each width and each small enough, is said by some bits.
use Rattle.std.proofs.Common.{◌≡◌, ℕ, zero, suc, ◌+◌, ◌-◌, ◌*◌, ◌^◌, ◌<◌, ◌≤◌, Bool, true, false, List, [], ◌∷◌, ◌++◌, length, take, drop, refl, sym, ap, subst, ◌∙◌, arith, ◌⊎◌, inl, inr, length-append}
use Rattle.std.specs.List.{sum}
use Rattle.std.proofs.Math.Pow.{pow_pos}
use Rattle.std.proofs.lemmas.Bool.{cases_order, leb-true}
use Rattle.std.proofs.lemmas.List.{take_at, drop_at}
use Rattle.std.specs.Prelude.{nat_le, if◌then◌else◌}
use Rattle.sk_gates.specs.Words.{digit, number}
use Rattle.sk_gates.proofs.WordLaws.{number_push}
use Rattle.sk_oblig_queries.specs.Numbers.{first_power, bits_of_size, numbers_said}
use Rattle.sk_oblig_queries.proofs.Order.{sum_more}

-- one number for each width, and so many bits say each
abbrev pub Below : List ℕ → List ℕ → Type 0
Below [] [] = Unit {0}
Below (w ∷ ws) (n ∷ ns) = (n < 2 ^ w) × Below ws ns
Below _ _ = ⊥

abbrev Spoken : ℕ → ℕ → Type 0
Spoken w n = (bits : List Bool) × (length bits ≡ w) × (number bits ≡ n)

number_zero : number [] ≡ 0
unfolding number
number_zero = refl

pushed : (w n : ℕ) (bits : List Bool) (b : Bool) → length bits ≡ w → number bits + 2 ^ w * digit b ≡ n → Spoken (suc w) n
pushed w n bits b l e =
    (bits ++ b ∷ [], length-append bits (b ∷ []) ∙ omega (arith, l), number_push bits b ∙ ap (λ k. number bits + 2 ^ k * digit b) l ∙ e)

spoken : (w n : ℕ) → n < 2 ^ w → Spoken w n
spoken zero n h =
    let e : 0 ≡ n = omega (arith, h) in
    ([], refl, number_zero ∙ e)
spoken (suc w) n h = by (cases_order n (2 ^ w)) (λ k. spoken w n k) (λ k. spoken w (n - 2 ^ w) k)
  where
    high : 2 ^ w ≤ n → (n - 2 ^ w < 2 ^ w → Spoken w (n - 2 ^ w)) → Spoken (suc w) n
    high more rest =
        let power : 2 ^ suc w ≡ 2 * 2 ^ w = omega arith in
        let r = rest (omega (arith, h, power, more)) in
        pushed w n r.0 true r.1 (let e : number r.0 ≡ n - 2 ^ w = r.2 in omega (arith, e, more))

    by : (n ≡ 2 ^ w) ⊎ ((n < 2 ^ w) ⊎ (2 ^ w < n)) → (n < 2 ^ w → Spoken w n) → (n - 2 ^ w < 2 ^ w → Spoken w (n - 2 ^ w)) → Spoken (suc w) n
    by (inl same) low rest = high (omega (arith, same)) rest
    by (inr (inl less)) low rest =
        let r = low less in
        pushed w n r.0 false r.1 (let e : number r.0 ≡ n = r.2 in omega (arith, e))
    by (inr (inr more)) low rest = high (omega (arith, more)) rest

pub all_spoken : (ws ns : List ℕ) → Below ws ns → (bits : List Bool) × (length bits ≡ sum ws) × (numbers_said ws bits ≡ ns)
all_spoken [] [] h = ([], refl, refl)
all_spoken [] (n ∷ ns) h = absurd h
all_spoken (w ∷ ws) [] h = absurd h
all_spoken (w ∷ ws) (n ∷ ns) h =
    let one = spoken w n h.0 in
    let rest = all_spoken ws ns h.1 in
    let here : number (take w (one.0 ++ rest.0)) ≡ n = ap number (take_at one.0 rest.0 w one.1) ∙ one.2 in
    let there : numbers_said ws (drop w (one.0 ++ rest.0)) ≡ ns = ap (numbers_said ws) (drop_at one.0 rest.0 w one.1) ∙ rest.2 in (
      one.0 ++ rest.0,
      length-append one.0 rest.0 ∙ ap (λ k. k + length rest.0) one.1 ∙ ap (λ k. w + k) rest.1 ∙ sym (sum_more w ws),
      ap (λ k. k ∷ numbers_said ws (drop w (one.0 ++ rest.0))) here ∙ ap (λ ks. n ∷ ks) there,
    )

-- a size is at most the power by the bits that it has
first_reaches : (s k b : ℕ) → s ≤ 2 ^ (b + k) → s ≤ 2 ^ first_power s k b
first_reaches s zero b h = let same : b + 0 ≡ b = omega arith in subst (λ j. s ≤ 2 ^ j) same h
first_reaches s (suc k) b h = by (nat_le s (2 ^ b)) refl (first_reaches s k (b + 1))
  where
    by : (c : Bool) → nat_le s (2 ^ b) ≡ c → (s ≤ 2 ^ (b + 1 + k) → s ≤ 2 ^ first_power s k (b + 1)) → s ≤ 2 ^ (if c then b else first_power s k (b + 1))
    by true e rest = leb-true s (2 ^ b) e
    by false e rest =
        let same : b + suc k ≡ b + 1 + k = omega arith in
        rest (subst (λ j. s ≤ 2 ^ j) same h)

pub size_reached : (s : ℕ) → s ≤ 2 ^ 64 → s ≤ 2 ^ bits_of_size s
unfolding bits_of_size
size_reached s h = first_reaches s 64 0 h

abbrev pub zeros : List ℕ → List ℕ
zeros [] = []
zeros (w ∷ ws) = 0 ∷ zeros ws

pub zeros_below : (ws : List ℕ) → Below ws (zeros ws)
zeros_below [] = tt
zeros_below (w ∷ ws) = (pow_pos w, zeros_below ws)

pub below_length : (ws ns : List ℕ) → Below ws ns → length ns ≡ length ws
below_length [] [] h = refl
below_length [] (n ∷ ns) h = absurd h
below_length (w ∷ ws) [] h = absurd h
below_length (w ∷ ws) (n ∷ ns) h = ap suc (below_length ws ns h.1)

pub below_append : (ws vs ns ms : List ℕ) → Below ws ns → Below vs ms → Below (ws ++ vs) (ns ++ ms)
below_append [] vs [] ms h k = k
below_append [] vs (n ∷ ns) ms h k = absurd h
below_append (w ∷ ws) vs [] ms h k = absurd h
below_append (w ∷ ws) vs (n ∷ ns) ms h k = (h.0, below_append ws vs ns ms h.1 k)
