-- Lists of one element and of two.
use Rattle.std.proofs.Common.{◌≡◌, ℕ, zero, suc, ◌<◌, List, [], ◌∷◌, ◌++◌, Some, All, length, slice_get, get_or, refl, ap, sym, subst, arith, length-append}
use Rattle.std.proofs.lemmas.List.Elements.{All-nil, All-cons}
use Rattle.std.proofs.lemmas.Option.{none-some, same_Some}

pub one_holds : {X : Type 0} (P : X → Type 0) (x : X) → P x → All P (x ∷ [])
one_holds P x p = All-cons P x [] p (All-nil P)

pub two_hold : {X : Type 0} (P : X → Type 0) (x y : X) → P x → P y → All P (x ∷ y ∷ [])
two_hold P x y p q = All-cons P x (y ∷ []) p (one_holds P y q)

-- what holds at each place holds of what is read there
pub of_none : {X : Type 0} (P : ℕ → X → Type 0) (i : ℕ) (x : X) → slice_get [] i ≡ Some x → P i x
of_none P i x e = absurd (none-some x e)

pub of_one : {X : Type 0} (P : ℕ → X → Type 0) (a : X) → P 0 a → (i : ℕ) (x : X) → slice_get (a ∷ []) i ≡ Some x → P i x
of_one P a p zero x e = subst (P 0) (same_Some a x e) p
of_one P a p (suc i) x e = absurd (none-some x e)

pub of_two : {X : Type 0} (P : ℕ → X → Type 0) (a b : X) → P 0 a → P 1 b → (i : ℕ) (x : X) → slice_get (a ∷ b ∷ []) i ≡ Some x → P i x
of_two P a b p q zero x e = subst (P 0) (same_Some a x e) p
of_two P a b p q (suc zero) x e = subst (P 1) (same_Some b x e) q
of_two P a b p q (suc (suc i)) x e = absurd (none-some x e)

pub same_first : {X : Type 0} (a b : X) (xs ys : List X) → a ∷ xs ≡ b ∷ ys → a ≡ b
same_first a b xs ys e = ap (λ zs. get_or zs 0 a) e

pub same_second : {X : Type 0} (a b x y : X) (xs ys : List X) → a ∷ x ∷ xs ≡ b ∷ y ∷ ys → x ≡ y
same_second a b x y xs ys e = ap (λ zs. get_or zs 1 x) e

-- two elements are one and the last
pub last_of_two : {X : Type 0} (a b : X) (front : List X) (p : X) → a ∷ b ∷ [] ≡ front ++ p ∷ [] → (front ≡ a ∷ []) × (b ≡ p)
last_of_two a b [] p e = (let long : 2 ≡ 1 = ap length e in absurd (omega (arith, long)))
last_of_two a b (x ∷ []) p e = (ap (λ y. y ∷ []) (sym (same_first a x (b ∷ []) (p ∷ []) e)), same_second a x b p [] [] e)
last_of_two {X} a b (x ∷ y ∷ xs) p e =
    let long = ap length e in
    let more = length-append xs (p ∷ []) in
    absurd (omega (arith, long, more))

pub below_two : (P : ℕ → Type 0) → P 0 → P 1 → (n : ℕ) → n < 2 → P n
below_two P p q zero less = p
below_two P p q (suc zero) less = q
below_two P p q (suc (suc n)) less = absurd (omega (arith, less))

pub below_four : (P : ℕ → Type 0) → P 0 → P 1 → P 2 → P 3 → (n : ℕ) → n < 4 → P n
below_four P p q r s zero less = p
below_four P p q r s (suc zero) less = q
below_four P p q r s (suc (suc zero)) less = r
below_four P p q r s (suc (suc (suc zero))) less = s
below_four P p q r s (suc (suc (suc (suc n)))) less = absurd (omega (arith, less))
