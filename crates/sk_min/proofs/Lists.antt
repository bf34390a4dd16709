-- One element behind a list.
use Rattle.std.proofs.Common.{◌≡◌, ℕ, zero, suc, ◌+◌, ◌≤◌, List, [], ◌∷◌, ◌++◌, Some, length, take, slice_get, refl, ap, ◌∙◌, arith}
use Rattle.std.proofs.lemmas.Option.{none-some, same_Some}

-- the element at the end of a list is the one that was put there
pub last_read : {A : Type 0} → (xs : List A) (x y : A) (i : ℕ) → length xs ≤ i → slice_get (xs ++ x ∷ []) i ≡ Some y → (i ≡ length xs) × (x ≡ y)
last_read [] x y zero h e = (refl, same_Some x y e)
last_read [] x y (suc i) h e = absurd (none-some y e)
last_read (z ∷ xs) x y zero h e = absurd (omega arith)
last_read (z ∷ xs) x y (suc i) h e =
    let r = last_read xs x y i (omega arith) e in
    (ap suc r.0, r.1)

pub last_there : {A : Type 0} → (xs : List A) (x : A) → slice_get (xs ++ x ∷ []) (length xs) ≡ Some x
last_there [] x = refl
last_there (z ∷ xs) x = last_there xs x

pub take_front : {A : Type 0} → (xs ys : List A) → take (length xs) (xs ++ ys) ≡ xs
take_front [] ys = refl
take_front (x ∷ xs) ys = ap (λ zs. x ∷ zs) (take_front xs ys)

pub one_longer : {A : Type 0} → (xs : List A) (x : A) → length (xs ++ x ∷ []) ≡ length xs + 1
one_longer [] x = refl
one_longer (z ∷ xs) x = let h = one_longer xs x in omega arith

-- two lists with one element behind each are the same only where these are
pub same_last : {A : Type 0} → (xs ys : List A) (x y : A) → xs ++ x ∷ [] ≡ ys ++ y ∷ [] → x ≡ y
same_last xs ys x y e =
    let long : length xs ≡ length ys = omega (arith, one_longer xs x, one_longer ys y, ap length e) in
    (last_read xs x y (length ys) (omega arith) (ap (λ zs. slice_get zs (length ys)) e ∙ last_there ys y)).1
