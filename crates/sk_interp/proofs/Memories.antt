-- Slots and fields that are set.
use Rattle.std.proofs.Common.{arith, ◌≡◌, ℕ, zero, suc, ◌-◌, ◌<◌, ◌≤◌, List, [], ◌∷◌, ◌++◌, Some, length, refl, sym, ap, ◌∙◌}
use Rattle.std.specs.Prelude.{slice_set, slice_get, slice_index_or, replicate}
use Rattle.std.proofs.lemmas.Option.{get_or_from_slice_get}
use Rattle.sk_prog.specs.declared.value.Value.{Value}
use Rattle.sk_model.specs.Heap.{written, blank}

-- a slot that is there is set
pub written_there : (ws : List Value) (slot : ℕ) (v : Value) → slot < length ws → slice_set ws slot v ≡ written ws slot v
written_there [] slot v h = absurd (omega (arith, h))
written_there (w ∷ ws) zero v h = refl
written_there (w ∷ ws) (suc slot) v h = ap (λ vs. w ∷ vs) (written_there ws slot v (omega (arith, h)))

-- a slot past the last comes behind blanks
past_none : (slot : ℕ) (v : Value) → replicate slot blank ++ v ∷ [] ≡ written [] slot v
past_none zero v = refl
past_none (suc slot) v = ap (λ vs. blank ∷ vs) (past_none slot v)

pub written_past : (ws : List Value) (slot : ℕ) (v : Value) → length ws ≤ slot → (ws ++ replicate (slot - length ws) blank) ++ v ∷ [] ≡ written ws slot v
written_past [] slot v h =
    let e : slot - 0 ≡ slot = omega arith in
    ap (λ n. replicate n blank ++ v ∷ []) e ∙ past_none slot v
written_past (w ∷ ws) zero v h = absurd (omega (arith, h))
written_past (w ∷ ws) (suc slot) v h =
    let e : suc slot - suc (length ws) ≡ slot - length ws = omega arith in
    ap (λ n. w ∷ ((ws ++ replicate n blank) ++ v ∷ [])) e ∙ ap (λ vs. w ∷ vs) (written_past ws slot v (omega (arith, h)))

pub ruleset writing = (written_there, written_past)

-- what is past the end is not set
pub set_past : {A : Type 0} (xs : List A) (i : ℕ) (x : A) → length xs ≤ i → xs ≡ slice_set xs i x
set_past [] i x h = refl
set_past (y ∷ xs) zero x h = absurd (omega (arith, h))
set_past (y ∷ xs) (suc i) x h = ap (λ ys. y ∷ ys) (set_past xs i x (omega (arith, h)))

-- what is found
pub found_at : {A : Type 0} (xs : List A) (i : ℕ) (x d : A) → slice_get xs i ≡ Some x → x ≡ slice_index_or xs i d
found_at xs i x d h = sym (get_or_from_slice_get xs i x d h)

-- past the end nothing is
pub none_past : {A : Type 0} (xs : List A) (i : ℕ) (d : A) → length xs ≤ i → d ≡ slice_index_or xs i d
none_past [] i d h = refl
none_past (y ∷ xs) zero d h = absurd (omega (arith, h))
none_past (y ∷ xs) (suc i) d h = none_past xs i d (omega (arith, h))

pub ruleset taking = (found_at, none_past, set_past)

-- what is set and set again
set_twice : {A : Type 0} (xs : List A) (i : ℕ) (x y : A) → slice_set (slice_set xs i x) i y ≡ slice_set xs i y
set_twice [] i x y = refl
set_twice (z ∷ xs) zero x y = refl
set_twice (z ∷ xs) (suc i) x y = ap (λ ys. z ∷ ys) (set_twice xs i x y)

pub written_twice : (ws : List Value) (slot : ℕ) (w v : Value) → written (slice_set ws slot w) slot v ≡ written ws slot v
written_twice [] slot w v = refl
written_twice (x ∷ ws) zero w v = refl
written_twice (x ∷ ws) (suc slot) w v = ap (λ vs. x ∷ vs) (written_twice ws slot w v)

pub set_twice_there : (rows : List (List Value)) (p field : ℕ) (w v : Value) → slice_set (slice_set rows p (slice_set (slice_index_or rows p []) field w)) p (slice_set (slice_index_or (slice_set rows p (slice_set (slice_index_or rows p []) field w)) p []) field v) ≡ slice_set rows p (slice_set (slice_index_or rows p []) field v)
set_twice_there [] p field w v = refl
set_twice_there (r ∷ rows) zero field w v = ap (λ fields. fields ∷ rows) (set_twice r field w v)
set_twice_there (r ∷ rows) (suc p) field w v = ap (λ others. r ∷ others) (set_twice_there rows p field w v)
