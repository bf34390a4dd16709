-- Division from the top, bit by bit.
use Rattle.std.proofs.Common.{◌≡◌, ℕ, zero, suc, ◌+◌, ◌-◌, ◌*◌, ◌/◌, ◌^◌, ◌<◌, ◌≤◌, Bool, true, false, not, ◌&&◌, ◌||◌, List, [], ◌∷◌, ◌++◌, length, take, drop, set, min, refl, sym, ap, ◌∙◌, arith, nat_eq, if◌then◌else◌, true≢false, ⊎_elim}
use Rattle.std.proofs.lemmas.Bool.{cases_lt}
use Rattle.std.proofs.lemmas.Bool.Decides.{nat_tests}
use Rattle.std.proofs.lemmas.Nat.{div-mul-add}
use Rattle.std.proofs.lemmas.List.{drop_all, drop_more, drop-set, take_all, length-take-le, get_or_past, get_or_push, get_or_append_left}
use Rattle.std.proofs.lemmas.List.Elements.{All-set}
use Rattle.sk_gates.specs.declared.bit.Bit.{Bit}
use Rattle.sk_gates.specs.declared.bit.Bit.TheVariants.{Constant}
use Rattle.sk_gates.specs.Bits.{bit_true, reach, AreOver}
use Rattle.sk_gates.specs.Words.{digit, number, bits_word, quotient_of, remainder_of}
use Rattle.sk_gates.specs.Division.{AreTops, IsDivided}
use Rattle.sk_gates.proofs.WordLaws.{bits_below, bits_more, bits_top, bits_low_below, mod_is, at}
use Rattle.sk_gates.proofs.EachLaws.{bits_split}

-- the same of the k highest bits
abbrev pub AreTopsTo : (ℕ → Bool) → ℕ → List Bit → List Bit → Type 0
AreTopsTo v k bits tops = (j : ℕ) → j ≤ k → bit_true v (at tops j) ≡ nat_eq (bits_word v (drop (length bits - j) bits)) 0

pub word_nil : (v : ℕ → Bool) (bits : List Bit) → bits ≡ [] → bits_word v bits ≡ 0
unfolding number
word_nil v bits e = ap (bits_word v) e

pub word_cons : (v : ℕ → Bool) (b : Bit) (bits : List Bit) → bits_word v (b ∷ bits) ≡ digit (bit_true v b) + 2 * bits_word v bits
unfolding number
word_cons v b bits = refl

-- the word from bit i on
word_from : (v : ℕ → Bool) (bits : List Bit) (i : ℕ) → i < length bits → bits_word v (drop i bits) ≡ digit (bit_true v (at bits i)) + 2 * bits_word v (drop (i + 1) bits)
word_from v bits i h = ap (bits_word v) (drop_more bits i (Constant false) h) ∙ word_cons v (at bits i) (drop (i + 1) bits)

pub tops_none : (v : ℕ → Bool) (bits none tops : List Bit) → none ≡ [] → tops ≡ none ++ Constant true ∷ [] → AreTopsTo v 0 bits tops
tops_none v bits none tops en et j h =
    let first : j ≡ 0 = omega (arith, h) in
    let whole : length bits ≤ length bits - j = omega (arith, first) in
    let top : at tops j ≡ Constant true = ap (λ x. at x j) et ∙ get_or_push none (Constant true) (Constant false) j (ap length en ∙ sym first) in
    rw (top, word_nil v (drop (length bits - j) bits) (drop_all (length bits - j) bits whole))

zero_test : (b : Bool) (n : ℕ) → (nat_eq n 0 && not b) ≡ nat_eq (digit b + 2 * n) 0
zero_test true zero = grind (arith, nat_tests)
zero_test true (suc n) = grind (arith, nat_tests)
zero_test false zero = grind (arith, nat_tests)
zero_test false (suc n) = grind (arith, nat_tests)

pub tops_step : (v : ℕ → Bool) (bits tops more : List Bit) (k : ℕ) (clear x y next : Bit) → k < length bits → length tops ≡ k + 1 → more ≡ tops ++ next ∷ [] → at tops k ≡ clear
    → x ≡ at bits (length bits - 1 - k) → bit_true v y ≡ not (bit_true v x) → bit_true v next ≡ (bit_true v clear && bit_true v y)
    → AreTopsTo v k bits tops → AreTopsTo v (k + 1) bits more
tops_step v bits tops more k clear x y next within long em last ex ey is before j h = ⊎_elim old new (cases_lt j (k + 1))
  where
    old : j < k + 1 → bit_true v (at more j) ≡ nat_eq (bits_word v (drop (length bits - j) bits)) 0
    old l = ap (λ z. bit_true v (at z j)) em ∙ ap (bit_true v) (get_or_append_left tops (next ∷ []) (Constant false) j (omega (arith, l, long))) ∙ before j (omega (arith, l))

    new : k + 1 ≤ j → bit_true v (at more j) ≡ nat_eq (bits_word v (drop (length bits - j) bits)) 0
    new l =
        let e : length bits - j ≡ length bits - 1 - k = omega (arith, h, l, within) in
        let e2 : (length bits - 1 - k) + 1 ≡ length bits - k = omega (arith, within) in
        let here : length tops ≡ j = omega (arith, long, h, l) in
        ap (λ z. bit_true v (at z j)) em ∙ ap (bit_true v) (get_or_push tops next (Constant false) j here)
        ∙ is ∙ ap (λ z. z && bit_true v y) (ap (bit_true v) (sym last) ∙ before k (omega arith))
        ∙ ap (λ z. nat_eq (bits_word v (drop (length bits - k) bits)) 0 && z) (ey ∙ ap (λ z. not (bit_true v z)) ex)
        ∙ zero_test (bit_true v (at bits (length bits - 1 - k))) (bits_word v (drop (length bits - k) bits))
        ∙ sym (ap (λ z. nat_eq z 0) (ap (λ z. bits_word v (drop z bits)) e ∙ word_from v bits (length bits - 1 - k) (omega (arith, within)) ∙ ap (λ z. digit (bit_true v (at bits (length bits - 1 - k))) + 2 * bits_word v (drop z bits)) e2))

-- a word of at most one bit more than low
word_over : (v : ℕ → Bool) (bits : List Bit) (low : ℕ) → low ≤ length bits → length bits ≤ low + 1 → bits_word v bits ≡ bits_word v (take low bits) + 2 ^ low * digit (bit_true v (at bits low))
word_over v bits low h k = ⊎_elim more same (cases_lt low (length bits))
  where
    more : low < length bits → bits_word v bits ≡ bits_word v (take low bits) + 2 ^ low * digit (bit_true v (at bits low))
    more l = bits_top v bits low (omega (arith, k, l))

    same : length bits ≤ low → bits_word v bits ≡ bits_word v (take low bits) + 2 ^ low * digit (bit_true v (at bits low))
    same l = rw (get_or_past bits low (Constant false) l, take_all low bits l) (omega arith)

-- One step on numbers: of twice what was left and the next bit, from and over are the lower bits and the one above them;
-- lower and upper are the lower bits of the divisor and those above.
step_of : (p from lower upper difference rest : ℕ) (over fits clear q : Bool) → from < p → lower < p → difference < p → (over ≡ true → upper ≡ 0)
    → difference + p * digit fits + lower ≡ from + p → clear ≡ nat_eq upper 0 → q ≡ ((fits || over) && clear) → rest ≡ (if q then difference else from)
    → from + p * digit over < 2 * (lower + p * upper) → IsDivided (from + p * digit over) (lower + p * upper) (digit q) rest
step_of p from lower zero difference rest true true clear q hf hl hd ho sum ec eq er twice = absurd (omega (arith, hf, hl, sum, twice))
step_of p from lower zero difference rest true false clear q hf hl hd ho sum ec eq er twice =
    let one : q ≡ true = eq ∙ ec in
    let r : rest ≡ difference = er ∙ ap (λ z. if z then difference else from) one in
    rw (one, r) (record { whole = omega (arith, sum); below = omega (arith, hf, hl, sum, twice) })
step_of p from lower zero difference rest false true clear q hf hl hd ho sum ec eq er twice =
    let one : q ≡ true = eq ∙ ec in
    let r : rest ≡ difference = er ∙ ap (λ z. if z then difference else from) one in
    rw (one, r) (record { whole = omega (arith, sum); below = omega (arith, hf, hl, sum, twice) })
step_of p from lower zero difference rest false false clear q hf hl hd ho sum ec eq er twice =
    let r : rest ≡ from = er ∙ ap (λ z. if z then difference else from) eq in
    rw (eq, r) (record { whole = omega arith; below = omega (arith, hf, hl, hd, sum, twice) })
step_of p from lower (suc n) difference rest true fits clear q hf hl hd ho sum ec eq er twice = absurd (omega (arith, ho refl))
step_of p from lower (suc n) difference rest false fits clear q hf hl hd ho sum ec eq er twice =
    let shut : clear ≡ false = ec ∙ grind (arith, nat_tests) in
    let none : q ≡ false = eq ∙ ap (λ z. (fits || false) && z) shut ∙ by (fits || false) in
    let r : rest ≡ from = er ∙ ap (λ z. if z then difference else from) none in
    rw (none, r) (record { whole = omega arith; below = omega (arith, hf, hl) })
  where
    by : (b : Bool) → (b && false) ≡ false
    by true = refl
    by false = refl

pub divided_step : (v : ℕ → Bool) (left divisor tops taken S S2 S3 from lower difference rest : List Bit) (next fits over enough clear q : Bit) (low : ℕ)
    → length left ≤ length divisor → length taken ≡ length left + 1 → low ≡ min (length taken) (length divisor) → bits_word v taken ≡ digit (bit_true v next) + 2 * bits_word v left
    → S ≡ taken → S2 ≡ taken → S3 ≡ difference → from ≡ take low S → lower ≡ take low divisor → length difference ≡ length from → over ≡ at S2 low → clear ≡ at tops (length divisor - low)
    → bits_word v difference + 2 ^ length from * digit (bit_true v fits) + bits_word v lower ≡ bits_word v from + 2 ^ length from
    → bit_true v enough ≡ (bit_true v fits || bit_true v over)
    → bit_true v q ≡ (bit_true v enough && bit_true v clear)
    → bits_word v rest ≡ (if bit_true v q then bits_word v S3 else bits_word v from)
    → AreTops v divisor tops → bits_word v left < bits_word v divisor
    → IsDivided (digit (bit_true v next) + 2 * bits_word v left) (bits_word v divisor) (digit (bit_true v q)) (bits_word v rest)
divided_step v left divisor tops taken S S2 S3 from lower difference rest next fits over enough clear q low short one is_low value es es2 es3 ef el ld eo ec p1 p2 p3 p4 tops_are below =
    rw (sym value, first, second) (step_of (2 ^ low) (bits_word v (take low taken)) (bits_word v (take low divisor)) (bits_word v (drop low divisor)) (bits_word v difference) (bits_word v rest)
    (bit_true v (at taken low)) (bit_true v fits) (bit_true v clear) (bit_true v q)
    (bits_low_below v taken low (omega (arith, is_low))) (bits_low_below v divisor low (omega (arith, is_low)))
    (rw (ld ∙ long) at (bits_below v difference))
    nothing_over
    (ap (λ k. bits_word v difference + 2 ^ k * digit (bit_true v fits) + bits_word v (take low divisor)) (sym long) ∙ ap (λ z. bits_word v difference + 2 ^ length from * digit (bit_true v fits) + bits_word v z) (sym el) ∙ p1 ∙ ap (λ z. bits_word v z + 2 ^ length from) is_from ∙ ap (λ k. bits_word v (take low taken) + 2 ^ k) long)
    cleared
    (p3 ∙ ap (λ z. z && bit_true v clear) (p2 ∙ ap (λ z. bit_true v fits || bit_true v z) (eo ∙ ap (λ z. at z low) es2)))
    (p4 ∙ ap (λ z. if bit_true v q then bits_word v z else bits_word v from) es3 ∙ ap (λ z. if bit_true v q then bits_word v difference else bits_word v z) is_from)
    twice)
  where
    is_from : from ≡ take low taken
    is_from = ef ∙ ap (take low) es

    long : length from ≡ low
    long = ap length is_from ∙ length-take-le low taken (omega (arith, is_low))

    first : bits_word v taken ≡ bits_word v (take low taken) + 2 ^ low * digit (bit_true v (at taken low))
    first = word_over v taken low (omega (arith, is_low)) (omega (arith, is_low, one, short))

    second : bits_word v divisor ≡ bits_word v (take low divisor) + 2 ^ low * bits_word v (drop low divisor)
    second = bits_split v divisor low (omega (arith, is_low))

    cleared : bit_true v clear ≡ nat_eq (bits_word v (drop low divisor)) 0
    cleared =
        let e : length divisor - (length divisor - low) ≡ low = omega (arith, is_low) in
        ap (bit_true v) ec ∙ tops_are (length divisor - low) (omega arith) ∙ ap (λ k. nat_eq (bits_word v (drop k divisor)) 0) e

    nothing_over : bit_true v (at taken low) ≡ true → bits_word v (drop low divisor) ≡ 0
    nothing_over t = ⊎_elim some none (cases_lt low (length taken))
      where
        some : low < length taken → bits_word v (drop low divisor) ≡ 0
        some l = word_nil v (drop low divisor) (drop_all low divisor (omega (arith, is_low, l)))

        none : length taken ≤ low → bits_word v (drop low divisor) ≡ 0
        none l = absurd (true≢false (sym t ∙ ap (bit_true v) (get_or_past taken low (Constant false) l)))

    small : (b : Bool) → digit b ≤ 1
    small true = omega arith
    small false = omega arith

    twice : bits_word v (take low taken) + 2 ^ low * digit (bit_true v (at taken low)) < 2 * (bits_word v (take low divisor) + 2 ^ low * bits_word v (drop low divisor))
    twice = rw (sym first, sym second, value) (omega (arith, below, small (bit_true v next)))

undivided : (taken p lower upper : ℕ) → taken < p → nat_eq upper 0 ≡ false → IsDivided taken (lower + p * upper) 0 taken
undivided taken p lower zero h e = absurd (true≢false e)
undivided taken p lower (suc n) h e = record { whole = omega arith; below = omega (arith, h) }

-- One step where a bit of the divisor above those compared is known to be true: what was taken is below the divisor.
pub divided_shut : (v : ℕ → Bool) (left divisor tops taken S from rest : List Bit) (next clear : Bit) (low : ℕ)
    → length left ≤ length divisor → length taken ≡ length left + 1 → low ≡ min (length taken) (length divisor) → bits_word v taken ≡ digit (bit_true v next) + 2 * bits_word v left
    → S ≡ taken → from ≡ take low S → rest ≡ from → clear ≡ at tops (length divisor - low) → clear ≡ Constant false
    → AreTops v divisor tops
    → IsDivided (digit (bit_true v next) + 2 * bits_word v left) (bits_word v divisor) (digit (bit_true v clear)) (bits_word v rest)
divided_shut v left divisor tops taken S from rest next clear low short one is_low value es ef er ec shut tops_are = ⊎_elim partly whole (cases_lt low (length taken))
  where
    upper : nat_eq (bits_word v (drop low divisor)) 0 ≡ false
    upper =
        let e : length divisor - (length divisor - low) ≡ low = omega (arith, is_low) in
        sym (ap (bit_true v) (sym shut ∙ ec) ∙ tops_are (length divisor - low) (omega arith) ∙ ap (λ k. nat_eq (bits_word v (drop k divisor)) 0) e)

    partly : low < length taken → IsDivided (digit (bit_true v next) + 2 * bits_word v left) (bits_word v divisor) (digit (bit_true v clear)) (bits_word v rest)
    partly l =
        let none : bits_word v (drop low divisor) ≡ 0 = word_nil v (drop low divisor) (drop_all low divisor (omega (arith, is_low, l))) in
        absurd (true≢false (sym (ap (λ n. nat_eq n 0) none) ∙ upper))

    whole : length taken ≤ low → IsDivided (digit (bit_true v next) + 2 * bits_word v left) (bits_word v divisor) (digit (bit_true v clear)) (bits_word v rest)
    whole l =
        let same : rest ≡ taken = er ∙ ef ∙ ap (take low) es ∙ take_all low taken l in
        let lt : bits_word v (take low taken) < 2 ^ low = bits_low_below v taken low (omega (arith, is_low)) in
        let is_all : bits_word v (take low taken) ≡ bits_word v taken = ap (bits_word v) (take_all low taken l) in
        let second = bits_split v divisor low (omega (arith, is_low)) in
        let zero_digit : digit (bit_true v clear) ≡ 0 = ap (λ z. digit (bit_true v z)) shut in
        rw (same, zero_digit, sym value, second) (undivided (bits_word v taken) (2 ^ low) (bits_word v (take low divisor)) (bits_word v (drop low divisor)) (omega (arith, lt, is_all)) upper)

pub divided_none : (v : ℕ → Bool) (a quotient left divisor : List Bit) → length quotient ≡ length a → left ≡ [] → 1 ≤ bits_word v divisor
    → IsDivided (bits_word v (drop (length a - 0) a)) (bits_word v divisor) (bits_word v (drop (length a - 0) quotient)) (bits_word v left)
divided_none v a quotient left divisor long none some =
    rw (word_nil v (drop (length a - 0) a) (drop_all (length a - 0) a (omega arith)), word_nil v (drop (length a - 0) quotient) (drop_all (length a - 0) quotient (omega (arith, long))), word_nil v left none)
    (record { whole = omega arith; below = omega (arith, some) })

-- a division of the higher bits, and one step more
longer : (x d n b q r s : ℕ) → IsDivided n b q r → IsDivided (x + 2 * r) b d s → IsDivided (x + 2 * n) b (d + 2 * q) s
longer x d n b q r s before step = record { whole = omega (arith, before.whole, step.whole); below = step.below }

pub divided_more : (v : ℕ → Bool) (a divisor quotient more left S rest : List Bit) (x q : Bit) (k : ℕ) → k < length a → length quotient ≡ length a → x ≡ at a (length a - 1 - k) → S ≡ left
    → more ≡ set quotient (length a - 1 - k) q
    → IsDivided (bits_word v (drop (length a - k) a)) (bits_word v divisor) (bits_word v (drop (length a - k) quotient)) (bits_word v left)
    → (bits_word v S < bits_word v divisor → IsDivided (digit (bit_true v x) + 2 * bits_word v S) (bits_word v divisor) (digit (bit_true v q)) (bits_word v rest))
    → IsDivided (bits_word v (drop (length a - (k + 1)) a)) (bits_word v divisor) (bits_word v (drop (length a - (k + 1)) more)) (bits_word v rest)
divided_more v a divisor quotient more left S rest x q k within long ex es em before step =
    rw (i_is, number_is, quotient_is)
    (longer (digit (bit_true v (at a i))) (digit (bit_true v q)) (bits_word v (drop (length a - k) a)) (bits_word v divisor) (bits_word v (drop (length a - k) quotient)) (bits_word v left) (bits_word v rest) before
    (rw (es, ex) at (step (rw es before.below))))
  where
    i : ℕ
    i = length a - 1 - k

    i_is : length a - (k + 1) ≡ i
    i_is = omega arith

    after : i + 1 ≡ length a - k
    after = omega (arith, within)

    number_is : bits_word v (drop i a) ≡ digit (bit_true v (at a i)) + 2 * bits_word v (drop (length a - k) a)
    number_is = word_from v a i (omega (arith, within)) ∙ ap (λ j. digit (bit_true v (at a i)) + 2 * bits_word v (drop j a)) after

    quotient_is : bits_word v (drop i more) ≡ digit (bit_true v q) + 2 * bits_word v (drop (length a - k) quotient)
    quotient_is =
        ap (λ z. bits_word v (drop i z)) em ∙ ap (bits_word v) (drop-set quotient i q (omega (arith, within, long))) ∙ word_cons v q (drop (i + 1) quotient)
        ∙ ap (λ j. digit (bit_true v q) + 2 * bits_word v (drop j quotient)) after

-- bits that are left out are false
pub trimmed_step : (v : ℕ → Bool) (bits : List Bit) (i before count : ℕ) (x : Bit) → i < length bits → x ≡ at bits i → before ≤ i → count ≤ i + 1 → (count < i + 1 → (count ≡ before) × (x ≡ Constant false))
    → bits_word v (take before bits) ≡ bits_word v (take i bits) → bits_word v (take count bits) ≡ bits_word v (take (i + 1) bits)
trimmed_step v bits i before count x within ex most few kept same = ⊎_elim out counts (cases_lt count (i + 1))
  where
    out : count < i + 1 → bits_word v (take count bits) ≡ bits_word v (take (i + 1) bits)
    out l =
        let known : at bits i ≡ Constant false = sym ex ∙ (kept l).1 in
        ap (λ k. bits_word v (take k bits)) (kept l).0 ∙ same ∙ sym (bits_more v bits i within ∙ ap (λ z. bits_word v (take i bits) + 2 ^ i * digit (bit_true v z)) known ∙ omega arith)

    counts : i + 1 ≤ count → bits_word v (take count bits) ≡ bits_word v (take (i + 1) bits)
    counts l = let e : count ≡ i + 1 = omega (arith, few, l) in ap (λ k. bits_word v (take k bits)) e

-- what division from the top gives, kept only where the divisor is not 0
pub quotient_is : (a b q r w : ℕ) (some : Bool) → some ≡ not (nat_eq b 0) → w ≡ digit some * q → (1 ≤ b → IsDivided a b q r) → w ≡ quotient_of a b
quotient_is a zero q r w some es ew h = ew ∙ ap (λ z. digit z * q) es ∙ omega arith
quotient_is a (suc n) q r w some es ew h =
    let d = h (omega arith) in
    let test : nat_eq (suc n) 0 ≡ false = grind (arith, nat_tests) in
    let whole : q * suc n + r ≡ a = omega (arith, d.whole) in
    rw test (ew ∙ ap (λ z. digit z * q) (es ∙ ap not test) ∙ (let e : 1 * q ≡ q = omega arith in e) ∙ sym (ap (λ z. z / suc n) (sym whole) ∙ div-mul-add q (suc n) r d.below))

pub remainder_is : (a b q r w : ℕ) (some : Bool) → some ≡ not (nat_eq b 0) → w ≡ digit some * r → (1 ≤ b → IsDivided a b q r) → w ≡ remainder_of a b
remainder_is a zero q r w some es ew h = ew ∙ ap (λ z. digit z * r) es ∙ omega arith
remainder_is a (suc n) q r w some es ew h =
    let d = h (omega arith) in
    let test : nat_eq (suc n) 0 ≡ false = grind (arith, nat_tests) in
    rw test (ew ∙ ap (λ z. digit z * r) (es ∙ ap not test) ∙ (let e : 1 * r ≡ r = omega arith in e) ∙ mod_is (suc n) r q a d.below (let f : r + suc n * q ≡ a = omega (arith, d.whole) in f))

pub AreOver-same : (n : ℕ) (a b : List Bit) → a ≡ b → AreOver n b → AreOver n a
AreOver-same n a b e h = rw e h

pub AreOver-set : (n : ℕ) (bits : List Bit) (i : ℕ) (b : Bit) → AreOver n bits → reach b ≤ n → AreOver n (set bits i b)
AreOver-set n bits i b w h = All-set (λ x. reach x ≤ n) bits i b h w

pub division_said : (v : ℕ → Bool) (a b x y tops S T quotient left Q L q r : List Bit) (none some : Bit) → bits_word v x ≡ bits_word v a → bits_word v y ≡ bits_word v b
    → S ≡ tops → T ≡ tops → Q ≡ quotient → L ≡ left → none ≡ at S (length y) → bit_true v some ≡ not (bit_true v none)
    → AreTops v y tops
    → (AreTops v y T → 1 ≤ bits_word v y → IsDivided (bits_word v x) (bits_word v y) (bits_word v quotient) (bits_word v left))
    → bits_word v q ≡ digit (bit_true v some) * bits_word v Q → bits_word v r ≡ digit (bit_true v some) * bits_word v L
    → (bits_word v q ≡ quotient_of (bits_word v a) (bits_word v b)) × (bits_word v r ≡ remainder_of (bits_word v a) (bits_word v b))
division_said v a b x y tops S T quotient left Q L q r none some ex ey es et eq el en is_some are divided is_q is_r =
    rw (sym ex, sym ey) (
      quotient_is (bits_word v x) (bits_word v y) (bits_word v quotient) (bits_word v left) (bits_word v q) (bit_true v some) test (is_q ∙ ap (λ z. digit (bit_true v some) * bits_word v z) eq) (divided tops_are),
      remainder_is (bits_word v x) (bits_word v y) (bits_word v quotient) (bits_word v left) (bits_word v r) (bit_true v some) test (is_r ∙ ap (λ z. digit (bit_true v some) * bits_word v z) el) (divided tops_are),
    )
  where
    tops_are : AreTops v y T
    tops_are = rw et are

    test : bit_true v some ≡ not (nat_eq (bits_word v y) 0)
    test =
        let whole : length y - length y ≡ 0 = omega arith in
        is_some ∙ ap (λ z. not (bit_true v z)) (en ∙ ap (λ z. at z (length y)) es) ∙ ap not (are (length y) (omega arith) ∙ ap (λ k. nat_eq (bits_word v (drop k y)) 0) whole)
