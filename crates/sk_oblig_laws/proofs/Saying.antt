-- What the bits of leaves say is what they say as numbers of the same widths.
use Rattle.std.proofs.Common.{◌≡◌, ℕ, zero, suc, ◌+◌, ◌-◌, ◌*◌, ◌^◌, ◌<◌, ◌≤◌, Bool, true, false, ◌&&◌, List, [], ◌∷◌, ◌++◌, map, length, take, drop, get_or, Option, Some, None, pos, refl, sym, ap, subst, ◌∙◌, arith, All, ◌⊎◌, inl, inr, ⊎_elim, length-append}
use Rattle.std.specs.Prelude.{nat_eq, nat_lt, slice_index, slice_index_or}
use Rattle.std.specs.List.{position_or_len, range_with_len}
use Rattle.std.proofs.lemmas.Bool.{cases_order}
use Rattle.std.proofs.lemmas.Bool.Decides.{nat_tests}
use Rattle.std.proofs.lemmas.List.{get_or_past, take_all, get_or-take, get_or-drop, length-take, length-drop}
use Rattle.std.proofs.lemmas.List.Elements.{All-head, All-tail}
use Rattle.std.proofs.lemmas.List.FromFn.{length-map-range_with_len}
use Rattle.sk_dag.specs.declared.env.Env.{Env}
use Rattle.sk_dag.specs.Eval.{entry}
use Rattle.sk_gates.specs.Words.{digit, number}
use Rattle.sk_cnf.specs.declared.leaf.Leaf.{Leaf}
use Rattle.sk_cnf.specs.declared.leaf.Leaf.TheVariants.{Hole, Input}
use Rattle.sk_cnf.specs.Leaves.{same_leaf, leaf_bit, bit_or_false, number_of, hole_number, input_number, Says}
use Rattle.sk_oblig_queries.specs.Numbers.{numbers_said, leaves_from}
use Rattle.sk_oblig_queries.proofs.Steps.{number_next}

split : (n k : ℕ) → (n < k) ⊎ (k ≤ n)
split zero zero = inr (omega arith)
split zero (suc k) = inl (omega arith)
split (suc n) zero = inr (omega arith)
split (suc n) (suc k) = ⊎_elim (λ less. inl (omega (arith, less))) (λ more. inr (omega (arith, more))) (split n k)

-- Numbers by their bits

same_numbers : (n : ℕ) (f h : ℕ → Bool) → ((k : ℕ) → f k ≡ h k) → number_of n f ≡ number_of n h
unfolding number_of
same_numbers zero f h is = refl
same_numbers (suc n) f h is = ap (λ m. m + 2 ^ n * digit (f n)) (same_numbers n f h is) ∙ ap (λ b. number_of n h + 2 ^ n * digit b) (is n)

all_false : (n : ℕ) → number_of n (λ k. false) ≡ 0
unfolding number_of
all_false zero = refl
all_false (suc n) = let ih = all_false n in omega (arith, ih)

number_none : (f : ℕ → Bool) → number_of 0 f ≡ 0
unfolding number_of
number_none f = refl

number_more : (n : ℕ) (f : ℕ → Bool) → number_of (suc n) f ≡ number_of n f + 2 ^ n * digit (f n)
unfolding number_of
number_more n f = refl

nothing_said : number [] ≡ 0
unfolding number
nothing_said = refl

of_list : (n : ℕ) (bits : List Bool) → number_of n (λ k. get_or bits k false) ≡ number (take n bits)
of_list zero bits = number_none (λ k. get_or bits k false) ∙ sym nothing_said
of_list (suc n) bits =
    let e : suc n ≡ n + 1 = omega arith in
    number_more n (λ k. get_or bits k false)
    ∙ ap (λ m. m + 2 ^ n * digit (get_or bits n false)) (of_list n bits)
    ∙ by (cases_order n (length bits))
    ∙ ap (λ m. number (take m bits)) (sym e)
  where
    past : length bits ≤ n → number (take n bits) + 2 ^ n * digit (get_or bits n false) ≡ number (take (n + 1) bits)
    past h =
        let none : get_or bits n false ≡ false = get_or_past bits n false h in
        let here : number (take n bits) ≡ number bits = ap number (take_all n bits h) in
        let there : number (take (n + 1) bits) ≡ number bits = ap number (take_all (n + 1) bits (omega (arith, h))) in
        ap (λ b. number (take n bits) + 2 ^ n * digit b) none ∙ omega (arith, here, there)

    by : (n ≡ length bits) ⊎ ((n < length bits) ⊎ (length bits < n)) → number (take n bits) + 2 ^ n * digit (get_or bits n false) ≡ number (take (n + 1) bits)
    by (inl same) = past (omega (arith, same))
    by (inr (inl less)) = sym (number_next bits n false less)
    by (inr (inr more)) = past (omega (arith, more))

-- Bits of leaves

-- the bit at the place of a leaf, and false for one that is not there
abbrev found : List Leaf → List Bool → Leaf → Bool
found leaves bits x = get_or bits (position_or_len (same_leaf x) leaves) false

leaf_bit_is : (leaves : List Leaf) (bits : List Bool) (x : Leaf) → length bits ≤ length leaves → leaf_bit leaves bits x ≡ found leaves bits x
leaf_bit_is leaves bits x h = by (split (position_or_len (same_leaf x) leaves) (length leaves))
  where
    by : (position_or_len (same_leaf x) leaves < length leaves) ⊎ (length leaves ≤ position_or_len (same_leaf x) leaves) → leaf_bit leaves bits x ≡ found leaves bits x
    by (inl less) =
        let t : nat_lt (position_or_len (same_leaf x) leaves) (length leaves) ≡ true = grind (arith, nat_tests, less) in
        rw t refl
    by (inr past) =
        let t : nat_lt (position_or_len (same_leaf x) leaves) (length leaves) ≡ false = grind (arith, nat_tests, past) in
        rw t (sym (get_or_past bits (position_or_len (same_leaf x) leaves) false (omega (arith, past, h))))

module _ (x : Leaf) where
  skip_block : (leaf : ℕ → ℕ → Leaf) (n w a : ℕ) (ys : List Leaf) → ((j : ℕ) → a ≤ j → j < a + w → same_leaf x (leaf n j) ≡ false) → position_or_len (same_leaf x) (map (leaf n) (range_with_len a w) ++ ys) ≡ w + position_or_len (same_leaf x) ys
  skip_block leaf n zero a ys other = omega arith
  skip_block leaf n (suc w) a ys other =
      let t : same_leaf x (leaf n a) ≡ false = other a (omega arith) (omega arith) in
      rw t (omega (arith, skip_block leaf n w (a + 1) ys (λ j l m. other j (omega (arith, l)) (omega (arith, m)))))

  none_of : (leaf : ℕ → ℕ → Leaf) (ws : List ℕ) (n : ℕ) → ((m j : ℕ) → n ≤ m → same_leaf x (leaf m j) ≡ false) → position_or_len (same_leaf x) (leaves_from leaf n ws) ≡ length (leaves_from leaf n ws)
  none_of leaf [] n other = refl
  none_of leaf (w ∷ ws) n other =
      skip_block leaf n w 0 (leaves_from leaf (n + 1) ws) (λ j l m. other n j (omega arith))
      ∙ ap (λ k. w + k) (none_of leaf ws (n + 1) (λ m j l. other m j (omega (arith, l))))
      ∙ ap (λ k. k + length (leaves_from leaf (n + 1) ws)) (sym (length-map-range_with_len (leaf n) 0 w))
      ∙ sym (length-append (map (leaf n) (range_with_len 0 w)) (leaves_from leaf (n + 1) ws))

-- no bit of a leaf that is not there
none_said : (leaves : List Leaf) (bits : List Bool) (x : ℕ → Leaf) → length bits ≤ length leaves → ((k : ℕ) → position_or_len (same_leaf (x k)) leaves ≡ length leaves) → number_of 32 (λ k. leaf_bit leaves bits (x k)) ≡ 0
none_said leaves bits x h none =
    same_numbers 32 (λ k. leaf_bit leaves bits (x k)) (λ k. false) (λ k. leaf_bit_is leaves bits (x k) h ∙ get_or_past bits (position_or_len (same_leaf (x k)) leaves) false (omega (arith, none k, h)))
    ∙ all_false 32

module _ (leaf : ℕ → ℕ → Leaf) (marks : (i k n j : ℕ) → same_leaf (leaf i k) (leaf n j) ≡ (nat_eq i n && nat_eq k j)) where
  other_number : (i k n j : ℕ) → n < i ⊎ i < n → same_leaf (leaf i k) (leaf n j) ≡ false
  other_number i k n j (inl h) = let t : nat_eq i n ≡ false = grind (arith, nat_tests, h) in marks i k n j ∙ ap (λ b. b && nat_eq k j) t
  other_number i k n j (inr h) = let t : nat_eq i n ≡ false = grind (arith, nat_tests, h) in marks i k n j ∙ ap (λ b. b && nat_eq k j) t

  own_number : (n k j : ℕ) → same_leaf (leaf n k) (leaf n j) ≡ nat_eq k j
  own_number n k j = let t : nat_eq n n ≡ true = grind (arith, nat_tests) in marks n k n j ∙ ap (λ b. b && nat_eq k j) t

  own_block : (n k w a : ℕ) (ys : List Leaf) → a ≤ k → k < a + w → position_or_len (same_leaf (leaf n k)) (map (leaf n) (range_with_len a w) ++ ys) ≡ k - a
  own_block n k zero a ys l m = absurd (omega (arith, l, m))
  own_block n k (suc w) a ys l m = by (split a k) (own_block n k w (a + 1) ys)
    where
      by : (a < k) ⊎ (k ≤ a) → (a + 1 ≤ k → k < a + 1 + w → position_or_len (same_leaf (leaf n k)) (map (leaf n) (range_with_len (a + 1) w) ++ ys) ≡ k - (a + 1)) → position_or_len (same_leaf (leaf n k)) (map (leaf n) (range_with_len a (suc w)) ++ ys) ≡ k - a
      by (inl less) rest =
          let e : nat_eq k a ≡ false = grind (arith, nat_tests, less) in
          let t : same_leaf (leaf n k) (leaf n a) ≡ false = own_number n k a ∙ e in
          rw t (omega (arith, less, rest (omega (arith, less)) (omega (arith, m))))
      by (inr last) rest =
          let same : k ≡ a = omega (arith, l, last) in
          let e : nat_eq k a ≡ true = grind (arith, nat_tests, same) in
          let t : same_leaf (leaf n k) (leaf n a) ≡ true = own_number n k a ∙ e in
          rw t (omega (arith, same))

  past_block : (n k w : ℕ) (ws : List ℕ) → w ≤ k → position_or_len (same_leaf (leaf n k)) (leaves_from leaf n (w ∷ ws)) ≡ length (leaves_from leaf n (w ∷ ws))
  past_block n k w ws h =
      skip_block (leaf n k) leaf n w 0 (leaves_from leaf (n + 1) ws) (λ j l m. let e : nat_eq k j ≡ false = grind (arith, nat_tests, m, h) in own_number n k j ∙ e)
      ∙ ap (λ k. w + k) (none_of (leaf n k) leaf ws (n + 1) (λ m j l. other_number n k m j (inr (omega (arith, l)))))
      ∙ ap (λ k. k + length (leaves_from leaf (n + 1) ws)) (sym (length-map-range_with_len (leaf n) 0 w))
      ∙ sym (length-append (map (leaf n) (range_with_len 0 w)) (leaves_from leaf (n + 1) ws))

  first_bits : (n w : ℕ) (ws : List ℕ) (bits : List Bool) (k : ℕ) → length bits ≤ length (leaves_from leaf n (w ∷ ws)) → found (leaves_from leaf n (w ∷ ws)) bits (leaf n k) ≡ get_or (take w bits) k false
  first_bits n w ws bits k h = by (split k w)
    where
      by : (k < w) ⊎ (w ≤ k) → found (leaves_from leaf n (w ∷ ws)) bits (leaf n k) ≡ get_or (take w bits) k false
      by (inl less) =
          let here : position_or_len (same_leaf (leaf n k)) (leaves_from leaf n (w ∷ ws)) ≡ k = own_block n k w 0 (leaves_from leaf (n + 1) ws) (omega arith) (omega (arith, less)) ∙ omega arith in
          ap (λ j. get_or bits j false) here ∙ sym (get_or-take w bits k false less)
      by (inr past) =
          let short : length (take w bits) ≤ k = omega (arith, past, length-take w bits) in
          get_or_past bits (position_or_len (same_leaf (leaf n k)) (leaves_from leaf n (w ∷ ws))) false (omega (arith, past_block n k w ws past, h))
          ∙ sym (get_or_past (take w bits) k false short)

  later_bits : (i n w : ℕ) (ws : List ℕ) (bits : List Bool) (k : ℕ) → n < i → found (leaves_from leaf n (w ∷ ws)) bits (leaf i k) ≡ found (leaves_from leaf (n + 1) ws) (drop w bits) (leaf i k)
  later_bits i n w ws bits k h =
      ap (λ j. get_or bits j false) (skip_block (leaf i k) leaf n w 0 (leaves_from leaf (n + 1) ws) (λ j l m. other_number i k n j (inl h)))
      ∙ sym (get_or-drop w bits (position_or_len (same_leaf (leaf i k)) (leaves_from leaf (n + 1) ws)) false)

  numbered : (ws : List ℕ) (n : ℕ) (bits : List Bool) (i : ℕ) → All (λ w. w ≤ 32) ws → n ≤ i → length bits ≤ length (leaves_from leaf n ws) → number_of 32 (λ k. found (leaves_from leaf n ws) bits (leaf i k)) ≡ slice_index_or (numbers_said ws bits) (i - n) 0
  numbered [] n bits i small l h =
      same_numbers 32 (λ k. found (leaves_from leaf n []) bits (leaf i k)) (λ k. false) (λ k. get_or_past bits 0 false (omega (arith, h)))
      ∙ all_false 32
  numbered (w ∷ ws) n bits i small l h = by (split n i) (numbered ws (n + 1) (drop w bits) i (All-tail (λ v. v ≤ 32) w ws small))
    where
      by : (n < i) ⊎ (i ≤ n) → (n + 1 ≤ i → length (drop w bits) ≤ length (leaves_from leaf (n + 1) ws) → number_of 32 (λ k. found (leaves_from leaf (n + 1) ws) (drop w bits) (leaf i k)) ≡ slice_index_or (numbers_said ws (drop w bits)) (i - (n + 1)) 0) → number_of 32 (λ k. found (leaves_from leaf n (w ∷ ws)) bits (leaf i k)) ≡ slice_index_or (numbers_said (w ∷ ws) bits) (i - n) 0
      by (inl less) rest =
          let all = length-append (map (leaf n) (range_with_len 0 w)) (leaves_from leaf (n + 1) ws) in
          let block = length-map-range_with_len (leaf n) 0 w in
          let behind : length (drop w bits) ≤ length (leaves_from leaf (n + 1) ws) = omega (arith, length-drop w bits, h, all, block) in
          let next : suc (i - (n + 1)) ≡ i - n = omega (arith, less) in
          same_numbers 32 (λ k. found (leaves_from leaf n (w ∷ ws)) bits (leaf i k)) (λ k. found (leaves_from leaf (n + 1) ws) (drop w bits) (leaf i k)) (λ k. later_bits i n w ws bits k less)
          ∙ rest (omega (arith, less)) behind
          ∙ ap (λ j. slice_index_or (numbers_said (w ∷ ws) bits) j 0) next
      by (inr last) rest =
          let same : i ≡ n = omega (arith, l, last) in
          let few : w ≤ 32 = All-head (λ v. v ≤ 32) w ws small in
          let first : 0 ≡ i - n = omega (arith, same) in
          same_numbers 32 (λ k. found (leaves_from leaf n (w ∷ ws)) bits (leaf i k)) (λ k. get_or (take w bits) k false) (λ k. ap (λ m. found (leaves_from leaf n (w ∷ ws)) bits (leaf m k)) same ∙ first_bits n w ws bits k h)
          ∙ of_list 32 (take w bits)
          ∙ ap number (take_all 32 (take w bits) (omega (arith, few, length-take w bits)))
          ∙ ap (λ j. slice_index_or (numbers_said (w ∷ ws) bits) j 0) first

  pub said : (ws : List ℕ) (bits : List Bool) (i : ℕ) → All (λ w. w ≤ 32) ws → length bits ≤ length (leaves_from leaf 0 ws) → number_of 32 (λ k. leaf_bit (leaves_from leaf 0 ws) bits (leaf i k)) ≡ slice_index_or (numbers_said ws bits) i 0
  said ws bits i small h =
      same_numbers 32 (λ k. leaf_bit (leaves_from leaf 0 ws) bits (leaf i k)) (λ k. found (leaves_from leaf 0 ws) bits (leaf i k)) (λ k. leaf_bit_is (leaves_from leaf 0 ws) bits (leaf i k) h)
      ∙ numbered ws 0 bits i small (omega arith) h
      ∙ ap (λ j. slice_index_or (numbers_said ws bits) j 0) (omega arith)

-- The environment whose choice is the numbers, where the leaves are of holes.
pub holes_say : (ws : List ℕ) (bits : List Bool) → All (λ w. w ≤ 32) ws → length bits ≡ length (leaves_from Hole 0 ws) → Says (leaves_from Hole 0 ws) bits (record { choice = numbers_said ws bits; input = [] })
holes_say ws bits small long =
    let most : length bits ≤ length (leaves_from Hole 0 ws) = omega (arith, long) in
    record {
      holes = λ site. sym (said Hole (λ i k n j. refl) ws bits site small most);
      inputs = λ scalar. ap pos (sym (none_said (leaves_from Hole 0 ws) bits (λ k. Input scalar k) most (λ k. none_of (Input scalar k) Hole ws 0 (λ m j l. refl))));
    }

pub number_at : (ns : List ℕ) (i : ℕ) → entry (map pos ns) i ≡ pos (slice_index_or ns i 0)
number_at [] i = refl
number_at (n ∷ ns) zero = refl
number_at (n ∷ ns) (suc i) = number_at ns i

-- The environment whose input is the numbers, where the leaves are of scalars.
pub inputs_say : (ws : List ℕ) (bits : List Bool) → All (λ w. w ≤ 32) ws → length bits ≡ length (leaves_from Input 0 ws) → Says (leaves_from Input 0 ws) bits (record { choice = []; input = map pos (numbers_said ws bits) })
inputs_say ws bits small long =
    let most : length bits ≤ length (leaves_from Input 0 ws) = omega (arith, long) in
    record {
      holes = λ site. sym (none_said (leaves_from Input 0 ws) bits (λ k. Hole site k) most (λ k. none_of (Hole site k) Input ws 0 (λ m j l. refl)));
      inputs = λ scalar. number_at (numbers_said ws bits) scalar ∙ ap pos (sym (said Input (λ i k n j. refl) ws bits scalar small most));
    }
