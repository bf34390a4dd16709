-- Marks of parts one after another.
use Rattle.std.proofs.Common.{◌≡◌, ℕ, zero, suc, ◌+◌, ◌<◌, ◌≤◌, Bool, true, false, List, [], ◌∷◌, ◌++◌, length, refl, sym, ap, ◌∙◌, arith}
use Rattle.std.specs.Prelude.{◌==◌, nat_lt, slice_set}
use Rattle.std.proofs.lemmas.Bool.{lt-ltb, le-ltb, eq-eqb, ne_eqb}
use Rattle.sk_model.specs.Parts.{Part, counts}
use Rattle.sk_model.specs.Stands.{Standing, absent, in_row, first_of, only}
use Rattle.sk_holes_standing.specs.Marks.{marked, kept_if, some_of}

pub marked_append : (table : List Bool) (fs gs : List ℕ) → marked table (fs ++ gs) ≡ marked (marked table fs) gs
marked_append table [] gs = refl
marked_append table (f ∷ fs) gs = marked_append (slice_set table f true) fs gs

-- none of the parts from a number on stands
never : (test : ℕ → Bool) (k : ℕ) (ps : List (Part Standing)) → ((m : ℕ) → k ≤ m → test m ≡ false) → some_of test k ps ≡ first_of 0 ps
unfolding kept_if
never test k [] h = refl
never test k (p ∷ ps) h = (λ j. kept_if (h k (omega arith) j) p ∷ some_of test (k + 1) ps) ∙ ap (λ qs. absent p ∷ qs) (never test (k + 1) ps (λ m l. h m (omega (arith, l))))

first_from : (v k : ℕ) (test : ℕ → Bool) (ps : List (Part Standing)) → ((m : ℕ) → m < k + v → test m ≡ true) → ((m : ℕ) → k + v ≤ m → test m ≡ false) → some_of test k ps ≡ first_of v ps
unfolding kept_if
first_from v k test [] below above = refl
first_from zero k test (p ∷ ps) below above = never test k (p ∷ ps) (λ m l. above m (omega (arith, l)))
first_from (suc v) k test (p ∷ ps) below above = (λ j. kept_if (below k (omega arith) j) p ∷ some_of test (k + 1) ps) ∙ ap (λ qs. p ∷ qs) (first_from v (k + 1) test ps (λ m l. below m (omega (arith, l))) (λ m l. above m (omega (arith, l))))

one : (v k : ℕ) (test : ℕ → Bool) (ps : List (Part Standing)) → ((m : ℕ) → m ≡ k + v → test m ≡ true) → ((m : ℕ) → (m ≡ k + v → ⊥) → test m ≡ false) → some_of test k ps ≡ only v ps
unfolding kept_if
one v k test [] is not = refl
one zero k test (p ∷ ps) is not = (λ j. kept_if (is k (omega arith) j) p ∷ some_of test (k + 1) ps) ∙ ap (λ qs. p ∷ qs) (never test (k + 1) ps (λ m l. not m (λ e. absurd (omega (arith, l, e)))))
one (suc v) k test (p ∷ ps) is not = (λ j. kept_if (not k (λ e. absurd (omega (arith, e))) j) p ∷ some_of test (k + 1) ps) ∙ ap (λ qs. absent p ∷ qs) (one v (k + 1) test ps (λ m e. is m (omega (arith, e))) (λ m n. not m (λ e. n (omega (arith, e)))))

pub some_first : (v : ℕ) (ps : List (Part Standing)) → some_of (λ n. nat_lt n v) 0 ps ≡ first_of v ps
some_first v ps = first_from v 0 (λ n. nat_lt n v) ps (λ m l. lt-ltb m v (omega (arith, l))) (λ m l. le-ltb m v (omega (arith, l)))

pub some_only : (v : ℕ) (ps : List (Part Standing)) → some_of (λ n. n == v) 0 ps ≡ only v ps
some_only v ps = one v 0 (λ n. n == v) ps (λ m e. eq-eqb m v (omega (arith, e))) (λ m n. ne_eqb m v (λ e. n (omega (arith, e))))

pub kept_count : (c : Bool) (p : Part Standing) → (kept_if c p).count ≡ p.count
unfolding kept_if
kept_count true p = refl
kept_count false p = refl

pub row_count : (ps : List (Part Standing)) → (in_row ps).count ≡ counts ps
row_count [] = refl
row_count (p ∷ ps) = ap (λ n. p.count + n) (row_count ps)

pub only_some : (v : ℕ) (ps : List (Part Standing)) → only v ps ≡ some_of (λ n. n == v) 0 ps
only_some v ps = sym (some_only v ps)

pub first_some : (v : ℕ) (ps : List (Part Standing)) → first_of v ps ≡ some_of (λ n. nat_lt n v) 0 ps
first_some v ps = sym (some_first v ps)

pub ruleset chosen = (only_some, row_count)

pub ruleset first = (first_some, row_count)

pub set_past : (table : List Bool) (k : ℕ) (b : Bool) → length table ≤ k → slice_set table k b ≡ table
set_past [] k b h = refl
set_past (t ∷ ts) zero b h = absurd (omega (arith, h))
set_past (t ∷ ts) (suc k) b h = ap (λ us. t ∷ us) (set_past ts k b (omega (arith, h)))
