-- A capped count is the number of strings, capped.
use Rattle.std.proofs.Common.{◌≡◌, ℕ, zero, suc, ◌+◌, ◌*◌, ◌≤◌, ◌<◌, min, List, [], ◌∷◌, ◌++◌, map, flat_map, length, refl, sym, ap, ◌∙◌, arith, ◌⊎◌, inl, inr}
use Rattle.std.proofs.Math.Nat.{min-le_right, eq-or-lt_of_le, le-mul_of_pos_right, mul_comm, mul_assoc, suc-mul}
use Rattle.std.proofs.lemmas.List.{length-append, length-map}
use Rattle.sk_tree.specs.declared.pattern.Pattern.{Pattern}
use Rattle.sk_tree.specs.declared.pattern.Pattern.TheOpen as P
use Rattle.sk_tree.specs.declared.pattern.Pattern.TheFolds.{map-Pattern, fold-roll-Pattern}
use Rattle.sk_tree.specs.Strings.{Strings, strings_of, pattern_strings, pairs, rows}
use Rattle.sk_tree.proofs.Layers.{pattern_law, PatternLayer, pattern_parts}
use Rattle.sk_tree_spell.specs.Counts.{prefixed, plus, times, sum_from, product_from, count_layer, count_of, CountsStrings}

abbrev cap : ℕ → ℕ
cap n = min n 129

capped_plus : (n m : ℕ) → plus (cap n) (cap m) ≡ cap (n + m)
capped_plus n m = omega arith

small : (n : ℕ) → n ≤ 129 → cap n ≡ n
small n h = omega arith

large : (n : ℕ) → 129 ≤ n → cap n ≡ 129
large n h = omega arith

small_or_large : (n : ℕ) → (n ≤ 129) ⊎ (129 ≤ n)
small_or_large n = split (eq-or-lt_of_le (min-le_right n 129))
  where
    split : (min n 129 ≡ 129) ⊎ (min n 129 < 129) → (n ≤ 129) ⊎ (129 ≤ n)
    split (inl e) = inr (omega (arith, e))
    split (inr l) = inl (omega (arith, l))

-- one factor is large, and the other is not zero
large_times : (n m : ℕ) → 129 ≤ n → 0 < m → times (cap n) (cap m) ≡ cap (n * m)
large_times n m h p =
    let some : 0 < cap m = omega (arith, p) in
    let left : 129 ≤ 129 * cap m = omega (arith, some) in
    let right : n ≤ n * m = le-mul_of_pos_right n p in
    ap (λ a. times a (cap m)) (large n h) ∙ large (129 * cap m) left ∙ sym (large (n * m) (omega (arith, right, h)))

capped_times : (n m : ℕ) → times (cap n) (cap m) ≡ cap (n * m)
capped_times n zero = omega arith
capped_times zero (suc m) = omega arith
capped_times (suc n) (suc m) = split (small_or_large (suc n)) (small_or_large (suc m))
  where
    split : (suc n ≤ 129) ⊎ (129 ≤ suc n) → (suc m ≤ 129) ⊎ (129 ≤ suc m) → times (cap (suc n)) (cap (suc m)) ≡ cap (suc n * suc m)
    split (inr h) k = large_times (suc n) (suc m) h (omega arith)
    split (inl h) (inr k) = ap cap (mul_comm (cap (suc n)) (cap (suc m))) ∙ large_times (suc m) (suc n) k (omega arith) ∙ ap cap (mul_comm (suc m) (suc n))
    split (inl h) (inl k) = ap (λ a. times a (cap (suc m))) (small (suc n) h) ∙ ap (λ b. times (suc n) b) (small (suc m) k)

length_pairs : (fs ss : Strings) → length (pairs fs ss) ≡ length fs * length ss
length_pairs [] ss = omega arith
length_pairs (f ∷ fs) ss =
    let rest = length_pairs fs ss in
    let front = length-map ss (λ s. f ++ s) in
    let both = length-append (prefixed f ss) (pairs fs ss) in
    let more = suc-mul (length fs) (length ss) in
    omega (arith, both, front, rest, more)

abbrev Counted : Pattern → Type 0
Counted p = count_of p ≡ cap (length (strings_of p))

abbrev Known : Type 0
Known = List ((p : Pattern) × Counted p)

abbrev patterns : Known → List Pattern
patterns qs = map (λ q. q.0) qs

total : (qs : Known) (n k : ℕ) → n ≡ cap k → sum_from n (map count_of (patterns qs)) ≡ cap (k + length (flat_map (λ s. s) (map strings_of (patterns qs))))
total [] n k e = e ∙ ap cap (omega arith)
total (q ∷ qs) n k e =
    let m = length (strings_of q.0) in
    let rest = flat_map (λ s. s) (map strings_of (patterns qs)) in
    let here : plus n (count_of q.0) ≡ cap (k + m) = ap (λ a. plus a (count_of q.0)) e ∙ ap (λ b. plus (cap k) b) q.1 ∙ capped_plus k m in
    let sum : k + m + length rest ≡ k + (m + length rest) = omega arith in
    total qs (plus n (count_of q.0)) (k + m) here ∙ ap cap (sum ∙ ap (λ z. k + z) (sym (length-append (strings_of q.0) rest)))

power : (qs : Known) (n k : ℕ) → n ≡ cap k → product_from n (map count_of (patterns qs)) ≡ cap (k * length (rows (map strings_of (patterns qs))))
power [] n k e = e ∙ ap cap (omega arith)
power (q ∷ qs) n k e =
    let m = length (strings_of q.0) in
    let rest = rows (map strings_of (patterns qs)) in
    let here : times n (count_of q.0) ≡ cap (k * m) = ap (λ a. times a (count_of q.0)) e ∙ ap (λ b. times (cap k) b) q.1 ∙ capped_times k m in
    power qs (times n (count_of q.0)) (k * m) here ∙ ap cap (mul_assoc k m (length rest) ∙ ap (λ z. k * z) (sym (length_pairs (strings_of q.0) rest)))

counted : (y : PatternLayer Counted) → count_layer (map-Pattern Pattern ℕ count_of (pattern_parts Counted y)) ≡ cap (length (pattern_strings (map-Pattern Pattern Strings strings_of (pattern_parts Counted y))))
counted (P.Choice qs) =
    let many = length (flat_map (λ s. s) (map strings_of (patterns qs))) in
    let none : 0 + many ≡ many = omega arith in
    total qs 0 0 refl ∙ ap cap none
counted (P.Seq qs) =
    let many = length (rows (map strings_of (patterns qs))) in
    let one : 1 * many ≡ many = omega arith in
    power qs 1 1 refl ∙ ap cap one
counted (P.Maybe q) =
    let m = length (strings_of q.0) in
    let more : plus 1 (cap m) ≡ cap (suc m) = omega arith in
    ap (λ b. plus 1 b) q.1 ∙ more
counted (P.Group q) = q.1
counted (P.One t) = refl

pub counts_strings : CountsStrings
counts_strings =
    pattern_law Counted (λ y.
    fold-roll-Pattern ℕ count_layer (pattern_parts Counted y)
    ∙ counted y
    ∙ ap (λ ss. cap (length ss)) (sym (fold-roll-Pattern Strings pattern_strings (pattern_parts Counted y))))

-- of a count that is at most 128
pub within : (p : Pattern) → count_of p ≤ 128 → length (strings_of p) ≤ 128
within p h = let e = counts_strings p in omega (arith, e, h)

-- of a count that is more
pub beyond : (p : Pattern) → 128 < count_of p → 128 < length (strings_of p)
beyond p h = let e = counts_strings p in omega (arith, e, h)
