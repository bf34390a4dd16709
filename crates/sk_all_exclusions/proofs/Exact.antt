-- A clause that denies the bits of sites is false exactly where the numbers are said.
use Rattle.std.proofs.Common.{◌≡◌, ℕ, zero, suc, ◌+◌, ◌*◌, ◌/◌, ◌%◌, ◌^◌, ◌<◌, ◌≤◌, ◌==◌, Bool, true, false, not, ◌||◌, List, [], ◌∷◌, ◌++◌, map, length, take, drop, Some, refl, sym, ap, subst, ◌∙◌, arith}
use Rattle.std.specs.Prelude.{IsTrue, slice_index_or, slice_get, if◌then◌else◌}
use Rattle.std.specs.List.{sum, range_with_len}
use Rattle.std.proofs.lemmas.Bool.{false≢true}
use Rattle.std.proofs.lemmas.List.{get_or_past, length-drop, drop-map}
use Rattle.sk_clause.specs.declared.lit.Lit.{Lit}
use Rattle.sk_clause.specs.Meaning.{clause_true, lit_true}
use Rattle.sk_cnf.specs.declared.leaf.Leaf.{Leaf}
use Rattle.sk_cnf.specs.declared.leaf.Leaf.TheVariants as leaf
use Rattle.sk_gates.specs.Words.{digit, number}
use Rattle.sk_model.specs.Parts.{value}
use Rattle.sk_oblig_queries.specs.Numbers.{numbers_said, leaves_from}
use Rattle.sk_oblig_queries.proofs.Order.{sum_more}
use Rattle.sk_all_exclusions.specs.Exclusions.{bit_at, denial, all_denied}
use Rattle.sk_all_exclusions.proofs.Bits.{nothing_said, number_more, halved, whole, joined, parted, low_bit}

neither : (a b : Bool) → (a || b) ≡ false → (a ≡ false) × (b ≡ false)
neither true b h = absurd (false≢true (sym h))
neither false b h = (refl, h)

-- a literal that is false does not deny the bit
not_denied : (x b : Bool) → (if b then not x else x) ≡ false → x ≡ b
not_denied true true h = refl
not_denied true false h = absurd (false≢true (sym h))
not_denied false true h = absurd (false≢true (sym h))
not_denied false false h = refl

is_denied : (x b : Bool) → x ≡ b → (if b then not x else x) ≡ false
is_denied true true h = refl
is_denied true false h = absurd (false≢true (sym h))
is_denied false true h = absurd (false≢true h)
is_denied false false h = refl

module _ (v : ℕ → Bool) where
  -- one bit, and those behind it
  first_out : (m : Bool) (x : ℕ) (b : Bool) (c : List Lit) → clause_true v (denial m x b ++ c) ≡ false → (IsTrue m → v x ≡ b) × (clause_true v c ≡ false)
  first_out true x b c h =
      let both = neither (lit_true v (record { var = x; neg = b })) (clause_true v c) h in
      ((λ is. not_denied (v x) b both.0), both.1)
  first_out false x b c h = ((λ is. absurd (false≢true is)), h)

  first_in : (m : Bool) (x : ℕ) (b : Bool) (c : List Lit) → (IsTrue m → v x ≡ b) → clause_true v c ≡ false → clause_true v (denial m x b ++ c) ≡ false
  first_in true x b c is h = λ j. is_denied (v x) b (is refl) j || h j
  first_in false x b c is h = h

  module _ (marks : List Bool) (values : List ℕ) where
    abbrev Clause : List ℕ → List Leaf → Type 0
    Clause names leaves = clause_true v (all_denied marks values names leaves) ≡ false

    abbrev Marked : ℕ → Type 0
    Marked n = IsTrue (slice_index_or marks n false)

    -- the number that the names say of the site, without its first a bits
    abbrev Said : ℕ → ℕ → ℕ → List ℕ → Type 0
    Said n w a names = number (take w (map v names)) ≡ value values n / 2 ^ a

    small_half : (n a w : ℕ) → value values n / 2 ^ a < 2 ^ suc w → value values n / 2 ^ (a + 1) < 2 ^ w
    small_half n a w h = let half = halved (value values n) a in omega (arith, h, half)

    -- the bits of one site from bit a on, and those behind it
    block_out : (n w a : ℕ) (names : List ℕ) (ls : List Leaf) → a + w ≤ 64 → w ≤ length names → value values n / 2 ^ a < 2 ^ w → Clause names (map (leaf.Hole n) (range_with_len a w) ++ ls) → (Marked n → Said n w a names) × Clause (drop w names) ls
    block_out n zero a names ls room long small h =
        let none : 0 ≡ value values n / 2 ^ a = omega (arith, small) in
        ((λ is. nothing_said ∙ none), h)
    block_out n (suc w) a [] ls room long small h = absurd (omega (arith, long))
    block_out n (suc w) a (x ∷ xs) ls room long small h =
        let q : ℕ = value values n / 2 ^ a in
        let first = first_out (slice_index_or marks n false) x (bit_at (value values n) a) (all_denied marks values xs (map (leaf.Hole n) (range_with_len (a + 1) w) ++ ls)) h in
        let rest = block_out n w (a + 1) xs ls (omega (arith, room)) (omega (arith, long)) (small_half n a w small) first.1 in
        let bit : bit_at (value values n) a ≡ (q % 2 == 1) = low_bit (value values n) a (omega (arith, room)) in (
          (λ is.
              number_more (v x) (take w (map v xs))
              ∙ ap (λ b. digit b + 2 * number (take w (map v xs))) (first.0 is ∙ bit)
              ∙ ap (λ m. digit (q % 2 == 1) + 2 * m) (rest.0 is ∙ halved (value values n) a)
              ∙ joined q),
          rest.1,
        )

    block_in : (n w a : ℕ) (names : List ℕ) (ls : List Leaf) → a + w ≤ 64 → w ≤ length names → value values n / 2 ^ a < 2 ^ w → (Marked n → Said n w a names) → Clause (drop w names) ls → Clause names (map (leaf.Hole n) (range_with_len a w) ++ ls)
    block_in n zero a names ls room long small said h = h
    block_in n (suc w) a [] ls room long small said h = absurd (omega (arith, long))
    block_in n (suc w) a (x ∷ xs) ls room long small said h =
        let q : ℕ = value values n / 2 ^ a in
        let bit : bit_at (value values n) a ≡ (q % 2 == 1) = low_bit (value values n) a (omega (arith, room)) in
        let parts : Marked n → (v x ≡ (q % 2 == 1)) × (number (take w (map v xs)) ≡ q / 2) = λ is. parted (v x) (number (take w (map v xs))) q (sym (number_more (v x) (take w (map v xs))) ∙ said is) in
        first_in (slice_index_or marks n false) x (bit_at (value values n) a) (all_denied marks values xs (map (leaf.Hole n) (range_with_len (a + 1) w) ++ ls))
        (λ is. (parts is).0 ∙ sym bit)
        (block_in n w (a + 1) xs ls (omega (arith, room)) (omega (arith, long)) (small_half n a w small) (λ is. (parts is).1 ∙ sym (halved (value values n) a)) h)

    -- the values of sites from number n on are so small that these widths have room for them
    abbrev Small : ℕ → List ℕ → Type 0
    Small n ws = (i w : ℕ) → slice_get ws i ≡ Some w → (w ≤ 64) × (value values (n + i) < 2 ^ w)

    small_first : (n w : ℕ) (ws : List ℕ) → Small n (w ∷ ws) → (w ≤ 64) × (value values n / 2 ^ 0 < 2 ^ w)
    small_first n w ws small =
        let s = small 0 w refl in
        let e : n + 0 ≡ n = omega arith in
        (s.0, subst (λ k. k < 2 ^ w) (sym (whole (value values n))) (subst (λ k. value values k < 2 ^ w) e s.1))

    small_rest : (n w : ℕ) (ws : List ℕ) → Small n (w ∷ ws) → Small (n + 1) ws
    small_rest n w ws small i u is =
        let s = small (suc i) u is in
        let e : n + suc i ≡ n + 1 + i = omega arith in
        (s.0, subst (λ k. value values k < 2 ^ u) e s.1)

    -- the values said are those of the sites that are marked, of which the first has number n
    abbrev Agreed : ℕ → List ℕ → List ℕ → Type 0
    Agreed n ws names = (i : ℕ) → Marked (n + i) → value values (n + i) ≡ value (numbers_said ws (map v names)) i

    agreed_rest : (n w : ℕ) (ws names : List ℕ) → Agreed n (w ∷ ws) names → Agreed (n + 1) ws (drop w names)
    agreed_rest n w ws names h i is =
        let e : n + 1 + i ≡ n + suc i = omega arith in
        ap (value values) e ∙ h (suc i) (subst Marked e is) ∙ ap (λ bits. value (numbers_said ws bits) i) (drop-map v w names)

    sites_out : (n : ℕ) (ws names : List ℕ) → length values ≤ n + length ws → sum ws ≤ length names → Small n ws → Clause names (leaves_from leaf.Hole n ws) → Agreed n ws names
    sites_out n [] names past long small h = λ i is. get_or_past values (n + i) 0 (omega (arith, past)) ∙ sym (get_or_past [] i 0 (omega arith))
    sites_out n (w ∷ ws) names past long small h =
        let s = small_first n w ws small in
        let more = sum_more w ws in
        let two = block_out n w 0 names (leaves_from leaf.Hole (n + 1) ws) (omega (arith, s.0)) (omega (arith, long, more)) s.1 h in
        by two.0 (sites_out (n + 1) ws (drop w names) (omega (arith, past)) (omega (arith, long, more, length-drop w names)) (small_rest n w ws small) two.1)
      where
        by : (Marked n → Said n w 0 names) → Agreed (n + 1) ws (drop w names) → Agreed n (w ∷ ws) names
        by first rest zero is =
            let e : n + 0 ≡ n = omega arith in
            ap (value values) e ∙ sym (whole (value values n)) ∙ sym (first (subst Marked e is))
        by first rest (suc i) is =
            let e : n + suc i ≡ n + 1 + i = omega arith in
            ap (value values) e ∙ rest i (subst Marked e is) ∙ ap (λ bits. value (numbers_said ws bits) i) (sym (drop-map v w names))

    nothing_denied : (names : List ℕ) → all_denied marks values names [] ≡ []
    nothing_denied [] = refl
    nothing_denied (x ∷ xs) = refl

    sites_in : (n : ℕ) (ws names : List ℕ) → sum ws ≤ length names → Small n ws → Agreed n ws names → Clause names (leaves_from leaf.Hole n ws)
    sites_in n [] names long small h = ap (clause_true v) (nothing_denied names)
    sites_in n (w ∷ ws) names long small h =
        let s = small_first n w ws small in
        let more = sum_more w ws in
        let e : n ≡ n + 0 = omega arith in
        block_in n w 0 names (leaves_from leaf.Hole (n + 1) ws) (omega (arith, s.0)) (omega (arith, long, more)) s.1
        (λ is. sym (h 0 (subst Marked e is)) ∙ ap (value values) (sym e) ∙ sym (whole (value values n)))
        (sites_in (n + 1) ws (drop w names) (omega (arith, long, more, length-drop w names)) (small_rest n w ws small) (agreed_rest n w ws names h))

    -- the same of all sites
    small_first_on : (ws : List ℕ) → ((i w : ℕ) → slice_get ws i ≡ Some w → (w ≤ 64) × (value values i < 2 ^ w)) → Small 0 ws
    small_first_on ws small i w is =
        let s = small i w is in
        let z : i ≡ 0 + i = omega arith in
        (s.0, subst (λ k. value values k < 2 ^ w) z s.1)

    pub agreed_where_false : (ws names : List ℕ) → length values ≤ length ws → sum ws ≤ length names → ((i w : ℕ) → slice_get ws i ≡ Some w → (w ≤ 64) × (value values i < 2 ^ w)) → clause_true v (all_denied marks values names (leaves_from leaf.Hole 0 ws)) ≡ false → (i : ℕ) → IsTrue (slice_index_or marks i false) → value values i ≡ value (numbers_said ws (map v names)) i
    agreed_where_false ws names past long small h i is =
        let z : i ≡ 0 + i = omega arith in
        ap (value values) z ∙ sites_out 0 ws names (omega (arith, past)) long (small_first_on ws small) h i (subst Marked z is)

    pub false_where_agreed : (ws names : List ℕ) → sum ws ≤ length names → ((i w : ℕ) → slice_get ws i ≡ Some w → (w ≤ 64) × (value values i < 2 ^ w)) → ((i : ℕ) → IsTrue (slice_index_or marks i false) → value values i ≡ value (numbers_said ws (map v names)) i) → clause_true v (all_denied marks values names (leaves_from leaf.Hole 0 ws)) ≡ false
    false_where_agreed ws names long small h =
        sites_in 0 ws names long (small_first_on ws small) (λ i is. let z : 0 + i ≡ i = omega arith in ap (value values) z ∙ h i (subst Marked z is))
