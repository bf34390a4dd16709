-- The leaves of a query: how many there are, and that none stands twice.
use Rattle.std.proofs.Common.{◌≡◌, ℕ, zero, suc, ◌+◌, ◌<◌, ◌≤◌, List, [], ◌∷◌, ◌++◌, map, length, Some, slice_get, refl, sym, ap, subst, ◌∙◌, arith, ◌⊎◌, inl, inr, ⊎_elim, length-append, zero-add}
use Rattle.std.specs.List.{range_with_len, sum}
use Rattle.std.proofs.lemmas.List.FromFn.{length-map-range_with_len, get_or-map-range_with_len}
use Rattle.std.proofs.lemmas.List.Sums.{sum_by-append}
use Rattle.std.proofs.lemmas.Option.{none-some, slice_get_within, get_or_from_slice_get}
use Rattle.sk_base.specs.declared.bounds.Bounds.{Bounds}
use Rattle.sk_model.specs.declared.expanded.Expanded.{Expanded}
use Rattle.sk_cnf.specs.declared.leaf.Leaf.{Leaf}
use Rattle.sk_cnf.specs.declared.leaf.Leaf.TheVariants.{Hole, Input}
use Rattle.sk_cnf.specs.Formula.{AreLeaves}
use Rattle.sk_oblig_queries.specs.declared.query.Query.{Query}
use Rattle.sk_oblig_queries.specs.declared.query.Query.TheVariants as query
use Rattle.sk_oblig_queries.specs.Numbers.{leaves_from}
use Rattle.sk_oblig_queries.specs.Queries.{widths_of_query, bits_of_query, leaf_of, leaves_of_query}

-- an element of two lists, one behind the other
apart : {X : Type 0} (xs ys : List X) (i : ℕ) (x : X) → slice_get (xs ++ ys) i ≡ Some x → (slice_get xs i ≡ Some x) ⊎ ((j : ℕ) × (i ≡ length xs + j) × (slice_get ys j ≡ Some x))
apart [] ys i x h = inr (i, omega arith, h)
apart (y ∷ xs) ys zero x h = inl h
apart (y ∷ xs) ys (suc i) x h =
    ⊎_elim
    (λ (p : slice_get xs i ≡ Some x). inl p)
    (λ (p : (j : ℕ) × (i ≡ length xs + j) × (slice_get ys j ≡ Some x)). inr (p.0, omega (arith, p.1), p.2))
    (apart xs ys i x h)

abbrev place : Leaf → ℕ
place (Hole site k) = site
place (Input scalar k) = scalar

abbrev bit : Leaf → ℕ
bit (Hole site k) = k
bit (Input scalar k) = k

-- a leaf shows of which number and which of its bits it is
record Shows (leaf : ℕ → ℕ → Leaf) : Type 0 where
  number : (i k : ℕ) → place (leaf i k) ≡ i
  digit : (i k : ℕ) → bit (leaf i k) ≡ k

module _ (leaf : ℕ → ℕ → Leaf) (shows : Shows leaf) where
  in_block : (n w i : ℕ) (l : Leaf) → slice_get (map (leaf n) (range_with_len 0 w)) i ≡ Some l → leaf n i ≡ l
  in_block n w i l h =
      let within : i < length (map (leaf n) (range_with_len 0 w)) = slice_get_within (map (leaf n) (range_with_len 0 w)) i l h in
      let less : i < w = subst (λ m. i < m) (length-map-range_with_len (leaf n) 0 w) within in
      let here = get_or-map-range_with_len (leaf n) 0 w i i l less (omega arith) in
      sym here ∙ get_or_from_slice_get (map (leaf n) (range_with_len 0 w)) i l l h

  -- the leaves of later numbers
  later : (ws : List ℕ) (n i : ℕ) (l : Leaf) → slice_get (leaves_from leaf n ws) i ≡ Some l → n ≤ place l
  later [] n i l h = absurd (none-some l h)
  later (w ∷ ws) n i l h =
      ⊎_elim
      (λ (p : slice_get (map (leaf n) (range_with_len 0 w)) i ≡ Some l). let e : place l ≡ n = ap place (sym (in_block n w i l p)) ∙ shows.number n i in omega (arith, e))
      (λ (p : (j : ℕ) × (i ≡ length (map (leaf n) (range_with_len 0 w)) + j) × (slice_get (leaves_from leaf (n + 1) ws) j ≡ Some l)). omega (arith, later ws (n + 1) p.0 l p.2))
      (apart (map (leaf n) (range_with_len 0 w)) (leaves_from leaf (n + 1) ws) i l h)

  crossed : (w : ℕ) (ws : List ℕ) (n i j : ℕ) (l : Leaf) → slice_get (map (leaf n) (range_with_len 0 w)) i ≡ Some l → slice_get (leaves_from leaf (n + 1) ws) j ≡ Some l → ⊥
  crossed w ws n i j l p q =
      let e : place l ≡ n = ap place (sym (in_block n w i l p)) ∙ shows.number n i in
      absurd (omega (arith, e, later ws (n + 1) j l q))

  twice : (ws : List ℕ) (n i j : ℕ) (l : Leaf) → slice_get (leaves_from leaf n ws) i ≡ Some l → slice_get (leaves_from leaf n ws) j ≡ Some l → i ≡ j
  twice [] n i j l p q = absurd (none-some l p)
  twice (w ∷ ws) n i j l p q =
      ⊎_elim
      (λ (a : slice_get (map (leaf n) (range_with_len 0 w)) i ≡ Some l). ⊎_elim
      (λ (b : slice_get (map (leaf n) (range_with_len 0 w)) j ≡ Some l). sym (shows.digit n i) ∙ ap bit (in_block n w i l a ∙ sym (in_block n w j l b)) ∙ shows.digit n j)
      (λ (b : (k : ℕ) × (j ≡ length (map (leaf n) (range_with_len 0 w)) + k) × (slice_get (leaves_from leaf (n + 1) ws) k ≡ Some l)). absurd (crossed w ws n i b.0 l a b.2))
      (apart (map (leaf n) (range_with_len 0 w)) (leaves_from leaf (n + 1) ws) j l q))
      (λ (a : (k : ℕ) × (i ≡ length (map (leaf n) (range_with_len 0 w)) + k) × (slice_get (leaves_from leaf (n + 1) ws) k ≡ Some l)). ⊎_elim
      (λ (b : slice_get (map (leaf n) (range_with_len 0 w)) j ≡ Some l). absurd (crossed w ws n j a.0 l b a.2))
      (λ (b : (k : ℕ) × (j ≡ length (map (leaf n) (range_with_len 0 w)) + k) × (slice_get (leaves_from leaf (n + 1) ws) k ≡ Some l)). a.1 ∙ ap (λ k. length (map (leaf n) (range_with_len 0 w)) + k) (twice ws (n + 1) a.0 b.0 l a.2 b.2) ∙ sym b.1)
      (apart (map (leaf n) (range_with_len 0 w)) (leaves_from leaf (n + 1) ws) j l q))
      (apart (map (leaf n) (range_with_len 0 w)) (leaves_from leaf (n + 1) ws) i l p)

pub sum_more : (w : ℕ) (ws : List ℕ) → sum (w ∷ ws) ≡ w + sum ws
sum_more w ws = sum_by-append (λ x. x) (w ∷ []) ws ∙ ap (λ k. k + sum ws) (zero-add w)

leaves_length : (leaf : ℕ → ℕ → Leaf) (n : ℕ) (ws : List ℕ) → length (leaves_from leaf n ws) ≡ sum ws
leaves_length leaf n [] = refl
leaves_length leaf n (w ∷ ws) =
    length-append (map (leaf n) (range_with_len 0 w)) (leaves_from leaf (n + 1) ws)
    ∙ ap (λ k. k + length (leaves_from leaf (n + 1) ws)) (length-map-range_with_len (leaf n) 0 w)
    ∙ ap (λ k. w + k) (leaves_length leaf (n + 1) ws)
    ∙ sym (sum_more w ws)

shows_query : (q : Query) → Shows (leaf_of q)
shows_query (query.Bad choice limit) = record { number = λ i k. refl; digit = λ i k. refl }
shows_query (query.BadAt choice o limit) = record { number = λ i k. refl; digit = λ i k. refl }
shows_query (query.Wanted inputs limit) = record { number = λ i k. refl; digit = λ i k. refl }

pub leaves_many : (e : Expanded) (bounds : Bounds) (q : Query) → length (leaves_of_query e bounds q) ≡ bits_of_query e bounds q
leaves_many e bounds q = leaves_length (leaf_of q) 0 (widths_of_query e bounds q)

pub leaves_once : (e : Expanded) (bounds : Bounds) (q : Query) → AreLeaves (leaves_of_query e bounds q)
leaves_once e bounds q = record { distinct = λ i j l. twice (leaf_of q) (shows_query q) (widths_of_query e bounds q) 0 i j l }

pub ruleset leaves_stand = (leaves_many, leaves_once)
