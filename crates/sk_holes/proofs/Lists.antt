-- Lists of parts, one after another.
use Rattle.std.proofs.Common.{◌≡◌, ℕ, zero, suc, ◌+◌, ◌-◌, ◌<◌, ◌≤◌, List, [], ◌∷◌, length, refl, ap, arith}
use Rattle.std.specs.Prelude.{slice_index_or, slice_get, Some, None}
use Rattle.sk_base.specs.declared.span.Span.{Span}
use Rattle.sk_model.specs.Parts.{Part, in_turn, pick}
use Rattle.sk_model.specs.Fill.{bit_at, bits_at}

pub pick_turned : {A : Type 0} (other : A) (ps : List (Part A)) (v i : ℕ) → pick other ps v i ≡ slice_index_or (in_turn ps i) v other
pick_turned other [] zero i = refl
pick_turned other [] (suc v) i = refl
pick_turned other (p ∷ ps) zero i = refl
pick_turned other (p ∷ ps) (suc v) i = pick_turned other ps v (i + p.count)

-- of an item that is there the default does not matter
pub index_any : {A : Type 0} (xs : List A) (v : ℕ) (d e : A) → v < length xs → slice_index_or xs v d ≡ slice_index_or xs v e
index_any [] v d e h = absurd (omega (arith, h))
index_any (x ∷ xs) zero d e h = refl
index_any (x ∷ xs) (suc v) d e h = index_any xs v d e (omega (arith, h))

pub index_past : {A : Type 0} (xs : List A) (v : ℕ) (d : A) → length xs ≤ v → slice_index_or xs v d ≡ d
index_past [] v d h = refl
index_past (x ∷ xs) zero d h = absurd (omega (arith, h))
index_past (x ∷ xs) (suc v) d h = index_past xs v d (omega (arith, h))

pub ruleset picks = (pick_turned, index_any, index_past)

pub look_some : {A : Type 0} (xs : List A) (v : ℕ) (d x : A) → slice_get xs v ≡ Some x → slice_index_or xs v d ≡ x
look_some [] v d x h = cc
look_some (y ∷ ys) zero d x h = cc
look_some (y ∷ ys) (suc v) d x h = look_some ys v d x h

pub look_none : {A : Type 0} (xs : List A) (v : ℕ) (d : A) → slice_get xs v ≡ None → slice_index_or xs v d ≡ d
look_none [] v d h = refl
look_none (y ∷ ys) zero d h = cc
look_none (y ∷ ys) (suc v) d h = look_none ys v d h

pub ruleset looked_up = (look_some, look_none)

pub bits_on : (values : List ℕ) (number : ℕ → ℕ) (span : Span) (n k i : ℕ) → k < n → bits_at values number span (n - k) i ≡ bit_at values number span i ∷ bits_at values number span (n - (k + 1)) (i + 1)
bits_on values number span n k i h =
    let e : n - k ≡ suc (n - (k + 1)) = omega (arith, h) in
    ap (λ m. bits_at values number span m i) e
