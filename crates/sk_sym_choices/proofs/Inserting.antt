-- Lists with one more put in, and what stands where in them.
use Rattle.std.proofs.Common.{◌≡◌, ℕ, zero, suc, ◌-◌, ◌<◌, ◌≤◌, ◌==◌, nat_lt, Bool, if◌then◌else◌, List, [], ◌∷◌, map, length, get_or, replicate, refl, sym, ap, ◌∙◌, arith, inl, inr}
use Rattle.std.specs.List.{insert}
use Rattle.std.proofs.lemmas.Bool.Decides.{eqb_tells, leb_tells}

pub length_insert : {A : Type 0} (xs : List A) (p : ℕ) (x : A) → length (insert xs p x) ≡ suc (length xs)
length_insert [] zero x = refl
length_insert [] (suc p) x = refl
length_insert (y ∷ xs) zero x = refl
length_insert (y ∷ xs) (suc p) x = ap suc (length_insert xs p x)

pub map_insert : {A B : Type 0} (f : A → B) (xs : List A) (p : ℕ) (x : A) → map f (insert xs p x) ≡ insert (map f xs) p (f x)
map_insert f [] zero x = refl
map_insert f [] (suc p) x = refl
map_insert f (y ∷ xs) zero x = refl
map_insert f (y ∷ xs) (suc p) x = ap (λ ys. f y ∷ ys) (map_insert f xs p x)

pub insert_same : {A : Type 0} (n p : ℕ) (x : A) → insert (replicate n x) p x ≡ replicate (suc n) x
insert_same zero zero x = refl
insert_same zero (suc p) x = refl
insert_same (suc n) zero x = refl
insert_same (suc n) (suc p) x = ap (λ ys. x ∷ ys) (insert_same n p x)

pub get_inserted : {A : Type 0} (xs : List A) (p : ℕ) (x d : A) → p ≤ length xs → get_or (insert xs p x) p d ≡ x
get_inserted [] zero x d h = refl
get_inserted [] (suc p) x d h = absurd (omega (arith, h))
get_inserted (y ∷ xs) zero x d h = refl
get_inserted (y ∷ xs) (suc p) x d h = get_inserted xs p x d (omega (arith, h))

pub get_before : {A : Type 0} (xs : List A) (p t : ℕ) (x d : A) → p ≤ length xs → t < p → get_or (insert xs p x) t d ≡ get_or xs t d
get_before xs zero t x d h l = absurd (omega (arith, l))
get_before [] (suc p) t x d h l = absurd (omega (arith, h))
get_before (y ∷ xs) (suc p) zero x d h l = refl
get_before (y ∷ xs) (suc p) (suc t) x d h l = get_before xs p t x d (omega (arith, h)) (omega (arith, l))

pub get_behind : {A : Type 0} (xs : List A) (p t : ℕ) (x d : A) → p ≤ t → get_or (insert xs p x) (suc t) d ≡ get_or xs t d
get_behind [] zero t x d h = refl
get_behind [] (suc p) t x d h = refl
get_behind (y ∷ xs) zero t x d h = refl
get_behind (y ∷ xs) (suc p) zero x d h = absurd (omega (arith, h))
get_behind (y ∷ xs) (suc p) (suc t) x d h = get_behind xs p t x d (omega (arith, h))

-- What stands at a place, by how many places it is from the end.
pub put : (xs : List Bool) (n t : ℕ) (b : Bool) → n ≤ length xs → t ≤ length xs
    → (if nat_lt (length xs - t) n then get_or xs (t - 1) b else if n == length xs - t then b else get_or xs t b) ≡ get_or (insert xs (length xs - n) b) t b
put xs n t b hn ht =
    let l : ℕ = length xs in
    elim (leb_tells (suc (l - t)) n) [
      | inl u ↦
          let before : l - n ≤ t - 1 = omega (arith, u.1, hn, ht) in
          let back : suc (t - 1) ≡ t = omega (arith, u.1, hn, ht) in
          rw u.0 (sym (get_behind xs (l - n) (t - 1) b b before) ∙ ap (λ k. get_or (insert xs (l - n) b) k b) back)
      | inr u ↦ rw u.0 (elim (eqb_tells n (l - t)) [
        | inl v ↦
            let here : l - n ≡ t = omega (arith, v.1, ht) in
            rw v.0 (sym (ap (λ k. get_or (insert xs k b) t b) here ∙ get_inserted xs t b b ht))
        | inr v ↦
            let before : t < l - n = omega (arith, u.1, v.1, ht) in
            rw v.0 (sym (get_before xs (l - n) t b b (omega arith) before))
      ])
    ]
