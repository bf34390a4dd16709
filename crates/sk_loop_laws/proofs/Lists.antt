-- Places of lists, and what holds of each element.
use Rattle.std.proofs.Common.{◌≡◌, ℕ, zero, suc, ◌<◌, List, [], ◌∷◌, ◌++◌, Some, All, length, get_or, take, slice_get, refl, ap, subst, arith, length-append}
use Rattle.std.proofs.lemmas.Option.{none-some, same_Some, slice_get_within, get_or_from_slice_get}
use Rattle.sk_model.specs.declared.expanded.Input.{Input}
use Rattle.sk_model.specs.declared.expanded.Pair.{Pair}
use Rattle.sk_loop_laws.specs.Honest.{inputs_of}

pub all_at : {X : Type 0} (P : X → Type 0) (xs : List X) (i : ℕ) (x : X) → All P xs → slice_get xs i ≡ Some x → P x
all_at P xs i x all at = subst P (get_or_from_slice_get xs i x x at) (all i x (slice_get_within xs i x at))

get_or_front : {X : Type 0} (d : X) (ys xs : List X) (k : ℕ) → k < length xs → get_or (xs ++ ys) k d ≡ get_or xs k d
get_or_front d ys [] k h = absurd (omega (arith, h))
get_or_front d ys (x ∷ xs) zero h = refl
get_or_front d ys (x ∷ xs) (suc k) h = get_or_front d ys xs k (omega (arith, h))

pub all_front : {X : Type 0} (P : X → Type 0) (xs ys : List X) → All P (xs ++ ys) → All P xs
all_front P xs ys all k d within = let long = length-append xs ys in subst P (get_or_front d ys xs k within) (all k d (omega (arith, within, long)))

-- in a list with more behind it the first places are the same
pub get_front : {X : Type 0} (xs ys : List X) (i : ℕ) → i < length xs → slice_get (xs ++ ys) i ≡ slice_get xs i
get_front [] ys i h = absurd (omega (arith, h))
get_front (x ∷ xs) ys zero h = refl
get_front (x ∷ xs) ys (suc i) h = get_front xs ys i (omega (arith, h))

pub take_front : {X : Type 0} (xs ys : List X) (i : ℕ) → i < length xs → take i (xs ++ ys) ≡ take i xs
take_front [] ys i h = absurd (omega (arith, h))
take_front (x ∷ xs) ys zero h = refl
take_front (x ∷ xs) ys (suc i) h = ap (λ rest. x ∷ rest) (take_front xs ys i (omega (arith, h)))

-- the pair of which an input is
pub pair_at : (pairs : List Pair) (i : ℕ) (x : Input) → slice_get (inputs_of pairs) i ≡ Some x → (p : Pair) × (slice_get pairs i ≡ Some p) × (p.input ≡ x)
pair_at [] i x h = absurd (none-some x h)
pair_at (p ∷ ps) zero x h = (p, refl, same_Some p.input x h)
pair_at (p ∷ ps) (suc i) x h = pair_at ps i x h

-- an input stands before each later place
pub earlier_at : (pairs : List Pair) (i j : ℕ) (x : Input) → i < j → slice_get (inputs_of pairs) i ≡ Some x → slice_get (inputs_of (take j pairs)) i ≡ Some x
earlier_at pairs i zero x less h = absurd (omega (arith, less))
earlier_at [] i (suc j) x less h = h
earlier_at (p ∷ ps) zero (suc j) x less h = h
earlier_at (p ∷ ps) (suc i) (suc j) x less h = earlier_at ps i j x (omega (arith, less)) h
