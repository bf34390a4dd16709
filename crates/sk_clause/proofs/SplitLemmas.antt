-- Lemmas on the parts of a flat list.
use Rattle.std.proofs.Common.{◌≡◌, ℕ, zero, suc, ◌+◌, ◌-◌, ◌<◌, ◌≤◌, ◌++◌, List, [], ◌∷◌, length, take, drop, get_or, refl, sym, ◌∙◌, ap, arith, length-append, slice_get, Some, add-suc}
use Rattle.std.proofs.lemmas.List.{take-append-le, drop-append-le, drop_at, take_all}
use Rattle.std.specs.List.{slice_range}
use Rattle.sk_clause.specs.Split.{parts, EndsAt}

pub length-parts : {X : Type 0} (from : ℕ) (ends : List ℕ) (flat : List X) → length (parts from ends flat) ≡ length ends
length-parts from [] flat = refl
length-parts from (e ∷ es) flat = ap suc (length-parts e es flat)

-- the ends lie in order
pub EndsAt-within : (from : ℕ) (ends : List ℕ) (total : ℕ) → EndsAt from ends total → from ≤ total
EndsAt-within from [] total h = omega arith
EndsAt-within from (e ∷ es) total h = let k : e ≤ total = EndsAt-within e es total h.1 in omega arith

pub EndsAt-end : (from : ℕ) (ends : List ℕ) (total i : ℕ) → EndsAt from ends total → i < length ends → get_or ends i 0 ≤ total
EndsAt-end from [] total i h l = absurd (omega arith)
EndsAt-end from (e ∷ es) total zero h l = EndsAt-within e es total h.1
EndsAt-end from (e ∷ es) total (suc i) h l = EndsAt-end e es total i h.1 (omega arith)

pub EndsAt-step : (from : ℕ) (ends : List ℕ) (total i : ℕ) → EndsAt from ends total → i < length ends → get_or (from ∷ ends) i 0 ≤ get_or ends i 0
EndsAt-step from [] total i h l = absurd (omega arith)
EndsAt-step from (e ∷ es) total zero h l = h.0
EndsAt-step from (e ∷ es) total (suc i) h l = EndsAt-step e es total i h.1 (omega arith)

pub get_or-parts : {X : Type 0} (from : ℕ) (ends : List ℕ) (flat : List X) (i : ℕ) → i < length ends → get_or (parts from ends flat) i [] ≡ slice_range flat (get_or (from ∷ ends) i 0) (get_or ends i 0)
get_or-parts from [] flat i l = absurd (omega arith)
get_or-parts from (e ∷ es) flat zero l = refl
get_or-parts from (e ∷ es) flat (suc i) l = get_or-parts e es flat i (omega arith)

slice_range-append : {X : Type 0} (flat c : List X) (a b : ℕ) → b ≤ length flat → a ≤ b → slice_range (flat ++ c) a b ≡ slice_range flat a b
slice_range-append flat c a b h k = let j : a ≤ length flat = omega arith in let m : b - a ≤ length (drop a flat) = simp Rattle.std.proofs.Common.length-drop (omega arith) in rw (drop-append-le a flat c j, take-append-le (b - a) (drop a flat) c m)

pub parts-push : {X : Type 0} (from : ℕ) (ends : List ℕ) (flat c : List X) (e : ℕ) → EndsAt from ends (length flat) → e ≡ length flat + length c → parts from (ends ++ e ∷ []) (flat ++ c) ≡ parts from ends flat ++ c ∷ []
parts-push from [] flat c e h k =
    let d : drop from (flat ++ c) ≡ c = drop_at flat c from (omega arith) in
    let t : take (e - from) c ≡ c = take_all (e - from) c (omega arith) in
    ap (λ x. x ∷ []) (rw d t)
parts-push from (x ∷ xs) flat c e h k =
    let w : x ≤ length flat = EndsAt-within x xs (length flat) h.1 in
    ap (λ y. y ∷ parts x (xs ++ e ∷ []) (flat ++ c)) (slice_range-append flat c from x w h.0) ∙ ap (λ y. slice_range flat from x ∷ y) (parts-push x xs flat c e h.1 k)

pub EndsAt-push : (from : ℕ) (ends : List ℕ) (total e : ℕ) → EndsAt from ends total → total ≤ e → EndsAt from (ends ++ e ∷ []) e
EndsAt-push from [] total e h k = (omega arith, refl)
EndsAt-push from (x ∷ xs) total e h k = (h.0, EndsAt-push x xs total e h.1 k)

pub EndsAt-order : (from : ℕ) (ends : List ℕ) (total i : ℕ) → EndsAt from ends total → i < length ends → 0 < i → get_or ends (i - 1) 0 ≤ get_or ends i 0
EndsAt-order from ends total zero h l p = absurd (omega arith)
EndsAt-order from ends total (suc i) h l p = rw Rattle.std.proofs.Math.Numerals.sub-one (EndsAt-step from ends total (suc i) h l)

pub ruleset store = (EndsAt-order, length-parts, parts-push, EndsAt-push, EndsAt-step, EndsAt-end, get_or-parts)
