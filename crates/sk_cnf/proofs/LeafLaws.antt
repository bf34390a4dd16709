-- The environment that leaves say.
use Rattle.std.proofs.Common.{◌≡◌, ℕ, zero, suc, ◌<◌, ◌≤◌, Bool, true, false, List, [], ◌∷◌, None, length, map, slice_index, get_or, refl, sym, ap, ◌∙◌, arith, ℤ, pos, ⊎_elim, nat_eq, nat_lt, not, ◌&&◌, ◌%◌}
use Rattle.std.specs.List.{range_with_len}
use Rattle.std.specs.Prelude.{position}
use Rattle.std.specs.List.{position_or_len}
use Rattle.std.proofs.lemmas.List.{get_or_past}
use Rattle.std.proofs.lemmas.List.FromFn.{get_or-map-range_with_len, length-map-range_with_len}
use Rattle.std.proofs.lemmas.Bool.{cases_lt}
use Rattle.std.proofs.lemmas.Bool.Decides.{nat_tests, Decides-int_eq}
use Rattle.std.proofs.lemmas.Int.{ints}
use Rattle.std.specs.Ordering.{int_eq}
use Rattle.sk_base.specs.Word.{signed, wrapped}
use Rattle.sk_dag.specs.Word.{bit_of}
use Rattle.sk_dag.specs.declared.env.Env.{Env}
use Rattle.sk_cnf.proofs.NumberLaws.{bit_of_number, no_bit_of_number, number_low}
use Rattle.sk_cnf.proofs.SignedLaws.{wrapped_is, doubled, int_false}
use Rattle.sk_cnf.specs.declared.leaf.Leaf.{Leaf}
use Rattle.sk_cnf.specs.declared.leaf.Leaf.TheVariants.{Hole, Input}
use Rattle.sk_cnf.specs.Leaves.{same_leaf, leaf_bit, bit_or_false, number_of, hole_number, input_number, sites, scalars, Says, leaf_env}

-- no leaf is found among others
prefix_none : (x : Leaf) (leaves : List Leaf) → position_or_len (same_leaf x) leaves ≡ length leaves → position (same_leaf x) leaves ≡ None
prefix_none x leaves e = let t : nat_lt (position_or_len (same_leaf x) leaves) (length leaves) ≡ false = grind (arith, nat_tests, e) in rw t refl

hole_past : (leaves : List Leaf) (site k : ℕ) → sites leaves ≤ site → position_or_len (same_leaf (Hole site k)) leaves ≡ length leaves
hole_past [] site k h = refl
hole_past (Hole s j ∷ leaves) site k h =
    let t : nat_eq site s ≡ false = grind (arith, nat_tests, h) in
    rw t (omega (arith, hole_past leaves site k (omega (arith, h))))
hole_past (Input s j ∷ leaves) site k h = omega (arith, hole_past leaves site k h)

input_past : (leaves : List Leaf) (scalar k : ℕ) → scalars leaves ≤ scalar → position_or_len (same_leaf (Input scalar k)) leaves ≡ length leaves
input_past [] scalar k h = refl
input_past (Input s j ∷ leaves) scalar k h =
    let t : nat_eq scalar s ≡ false = grind (arith, nat_tests, h) in
    rw t (omega (arith, input_past leaves scalar k (omega (arith, h))))
input_past (Hole s j ∷ leaves) scalar k h = omega (arith, input_past leaves scalar k h)

number_zero : (n : ℕ) (f : ℕ → Bool) → ((k : ℕ) → f k ≡ false) → number_of n f ≡ 0
unfolding number_of
number_zero zero f h = refl
number_zero (suc n) f h = rw (number_zero n f h, h n) (omega arith)

pub Says-leaf_env : (leaves : List Leaf) (bits : List Bool) → Says leaves bits (leaf_env leaves bits)
Says-leaf_env leaves bits = record { holes = holes; inputs = inputs }
  where
    holes : (site : ℕ) → slice_index (map (hole_number leaves bits) (range_with_len 0 (sites leaves))) site ≡ hole_number leaves bits site
    holes site =
        ⊎_elim
        (λ (l : site < sites leaves). get_or-map-range_with_len (hole_number leaves bits) 0 (sites leaves) site site 0 l (omega arith))
        (λ (l : sites leaves ≤ site).
        get_or_past (map (hole_number leaves bits) (range_with_len 0 (sites leaves))) site 0 (omega (arith, length-map-range_with_len (hole_number leaves bits) 0 (sites leaves)))
        ∙ sym (number_zero 32 (λ k. leaf_bit leaves bits (Hole site k)) (λ k. ap (bit_or_false bits) (prefix_none (Hole site k) leaves (hole_past leaves site k l)))))
        (cases_lt site (sites leaves))

    given : ℕ → ℤ
    given scalar = pos (input_number leaves bits scalar)

    inputs : (scalar : ℕ) → get_or (map (λ s. pos (input_number leaves bits s)) (range_with_len 0 (scalars leaves))) scalar (pos 0) ≡ pos (input_number leaves bits scalar)
    inputs scalar =
        ⊎_elim
        (λ (l : scalar < scalars leaves). get_or-map-range_with_len (λ s. pos (input_number leaves bits s)) 0 (scalars leaves) scalar scalar (pos 0) l (omega arith))
        (λ (l : scalars leaves ≤ scalar).
        get_or_past (map (λ s. pos (input_number leaves bits s)) (range_with_len 0 (scalars leaves))) scalar (pos 0) (omega (arith, length-map-range_with_len (λ s. pos (input_number leaves bits s)) 0 (scalars leaves)))
        ∙ ap pos (sym (number_zero 32 (λ k. leaf_bit leaves bits (Input scalar k)) (λ k. ap (bit_or_false bits) (prefix_none (Input scalar k) leaves (input_past leaves scalar k l))))))
        (cases_lt scalar (scalars leaves))

-- ---- the bits of holes and of the input

pub hole_bit_value : (leaves : List Leaf) (bits : List Bool) (e : Env) (site k : ℕ) → Says leaves bits e → k < 32 → leaf_bit leaves bits (Hole site k) ≡ (nat_lt k 64 && bit_of (slice_index e.choice site) k)
hole_bit_value leaves bits e site k said h =
    let t : nat_lt k 64 ≡ true = grind (arith, nat_tests) in
    rw (t, said.holes site) (sym (bit_of_number 32 k (λ j. leaf_bit leaves bits (Hole site j)) h))

pub hole_bit_past : (leaves : List Leaf) (bits : List Bool) (e : Env) (site k : ℕ) → Says leaves bits e → 32 ≤ k → false ≡ (nat_lt k 64 && bit_of (slice_index e.choice site) k)
hole_bit_past leaves bits e site k said h =
    rw (said.holes site, no_bit_of_number 32 k (λ j. leaf_bit leaves bits (Hole site j)) h) (by (nat_lt k 64))
  where
    by : (b : Bool) → false ≡ (b && false)
    by true = refl
    by false = refl

-- the lowest bits of a number, as a word
pub low_word : (w r : ℕ) (f : ℕ → Bool) → 1 ≤ w → w ≤ 32 → r ≡ number_of w f → signed w r ≡ wrapped w (pos (number_of 32 f))
low_word w r f low high e =
    wrapped_is w r (pos (number_of 32 f)) (e ∙ sym (number_low w 32 f high) ∙ ap (λ m. number_of 32 f % m) (doubled w low))

pub is_some : (n : ℕ) → not (nat_eq n 0) ≡ not (int_eq (pos n) (pos 0))
is_some n = ap not (by (nat_eq n 0) refl)
  where
    by : (c : Bool) → nat_eq n 0 ≡ c → nat_eq n 0 ≡ int_eq (pos n) (pos 0)
    by true e = let z : n ≡ 0 = grind (arith, nat_tests) in e ∙ sym ((Decides-int_eq (pos n) (pos 0)).1 (ap pos z))
    by false e = let z : 1 ≤ n = grind (arith, nat_tests) in e ∙ sym (int_false (pos n) (pos 0) (λ q. absurd (omega (arith, ints, q, z))))
