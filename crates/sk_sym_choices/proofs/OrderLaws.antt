-- The order of statements, one after another.
use Rattle.std.proofs.Common.{◌≡◌, ℕ, zero, suc, ◌+◌, ◌-◌, ◌<◌, ◌≤◌, ◌==◌, false, List, [], ◌∷◌, ◌++◌, map, length, take, get_or, replicate, refl, sym, ap, ◌∙◌, arith, length-append}
use Rattle.std.specs.List.{insert}
use Rattle.std.proofs.lemmas.Bool.{ne_eqb}
use Rattle.std.proofs.lemmas.List.{map-append, take_more, take_all, get_or-map}
use Rattle.sk_model.specs.Fill.{digit, arrange}
use Rattle.sk_sym_choices.specs.Orders.{up_to, order, turns}
use Rattle.sk_sym_choices.proofs.Inserting.{length_insert, map_insert, insert_same}

pub length_arrange : {A : Type 0} (values : List ℕ) (i : ℕ) (placed xs : List A) → length (arrange values i placed xs) ≡ length placed + length xs
length_arrange values i placed [] = omega arith
length_arrange values i placed (x ∷ xs) =
    let p : ℕ = length placed - digit values i (length placed) in
    length_arrange values i (insert placed p x) xs ∙ (let e : length (insert placed p x) ≡ suc (length placed) = length_insert placed p x in omega (arith, e))

-- the last is put in last
pub arrange_last : {A : Type 0} (values : List ℕ) (i : ℕ) (placed xs : List A) (x : A)
    → arrange values i placed (xs ++ x ∷ []) ≡ (let done = arrange values i placed xs in insert done (length done - digit values i (length done)) x)
arrange_last values i placed [] x = refl
arrange_last values i placed (y ∷ xs) x = arrange_last values i (insert placed (length placed - digit values i (length placed)) y) xs x

-- statements are put in order as their numbers are
pub arrange_map : {A B : Type 0} (f : A → B) (values : List ℕ) (i : ℕ) (placed xs : List A) → arrange values i (map f placed) (map f xs) ≡ map f (arrange values i placed xs)
arrange_map f values i placed [] = refl
arrange_map f values i placed (x ∷ xs) =
    let p : ℕ → ℕ = λ n. n - digit values i n in
    ap (λ n. arrange values i (insert (map f placed) (p n) (f x)) (map f xs)) (length_map f placed)
    ∙ ap (λ ys. arrange values i ys (map f xs)) (sym (map_insert f placed (p (length placed)) x))
    ∙ arrange_map f values i (insert placed (p (length placed)) x) xs
  where
    length_map : {A B : Type 0} (f : A → B) (xs : List A) → length (map f xs) ≡ length xs
    length_map f [] = refl
    length_map f (x ∷ xs) = ap suc (length_map f xs)

pub length_up_to : (n : ℕ) → length (up_to n) ≡ n
length_up_to zero = refl
length_up_to (suc n) = let e = length_up_to n in omega (arith, length-append (up_to n) (n ∷ []), e)

pub length_order : (values : List ℕ) (first n : ℕ) → length (order values first n) ≡ n
unfolding order
length_order values first n = let a = length_arrange {A = ℕ} values first [] (up_to n) in let b = length_up_to n in omega (arith, a, b)

-- one more statement
pub turns_more : (values : List ℕ) (first n k : ℕ) → turns values first (suc n) k ≡ insert (turns values first n k) (n - digit values first n) (n == k)
unfolding order
turns_more values first n k =
    ap (λ xs. map (λ j. j == k) xs) (arrange_last values first [] (up_to n) n)
    ∙ map_insert (λ j. j == k) (order values first n) (length (order values first n) - digit values first (length (order values first n))) n
    ∙ ap (λ m. insert (turns values first n k) (m - digit values first m) (n == k)) (length_order values first n)

-- none of those before a statement is that statement
pub turns_before : (values : List ℕ) (first n k : ℕ) → n ≤ k → turns values first n k ≡ replicate n false
unfolding order
turns_before values first zero k h = refl
turns_before values first (suc n) k h =
    turns_more values first n k
    ∙ ap (λ b. insert (turns values first n k) (n - digit values first n) b) (unlike n k (omega (arith, h)))
    ∙ ap (λ xs. insert xs (n - digit values first n) false) (turns_before values first n k (omega (arith, h)))
    ∙ insert_same n (n - digit values first n) false
  where
    unlike : (n k : ℕ) → n < k → (n == k) ≡ false
    unlike n k h = ne_eqb n k (λ e. absurd (omega (arith, h, e)))

-- ---- what the numbers say of the statements

front_of : {A : Type 0} (xs : List A) (d : A) (n : ℕ) → n ≤ length xs → map (λ k. get_or xs k d) (up_to n) ≡ take n xs
front_of xs d zero h = refl
front_of xs d (suc n) h =
    map-append (λ k. get_or xs k d) (up_to n) (n ∷ [])
    ∙ ap (λ ys. ys ++ get_or xs n d ∷ []) (front_of xs d n (omega (arith, h)))
    ∙ sym (take_more xs n d (omega (arith, h)))
    ∙ ap (λ m. take m xs) (let e : n + 1 ≡ suc n = omega arith in e)

-- statements in their order are those with the numbers of the order
pub arranged : {A : Type 0} (values : List ℕ) (first : ℕ) (xs : List A) (d : A) → arrange values first [] xs ≡ map (λ k. get_or xs k d) (order values first (length xs))
unfolding order
arranged values first xs d =
    ap (λ ys. arrange values first [] ys) (sym (front_of xs d (length xs) (omega arith) ∙ take_all (length xs) xs (omega arith)))
    ∙ arrange_map (λ k. get_or xs k d) values first [] (up_to (length xs))

-- at a turn the statement stands whose number the order has there, and no other
pub turn_of : (values : List ℕ) (first count k t : ℕ) → t < count → get_or (turns values first count k) t false ≡ (get_or (order values first count) t 0 == k)
turn_of values first count k t h = get_or-map (λ j. j == k) (order values first count) t 0 false (let l = length_order values first count in omega (arith, h, l))
