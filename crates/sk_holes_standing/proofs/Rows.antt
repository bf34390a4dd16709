-- Parts of which a test says which stand, one after another.
use Rattle.std.proofs.Common.{◌≡◌, ℕ, ◌+◌, ◌<◌, Bool, List, [], ◌∷◌, ◌++◌, map, length, drop, get_or, sym, ap, ◌∙◌, append_assoc, arith}
use Rattle.std.proofs.lemmas.List.{drop_more}
use Rattle.sk_model.specs.Parts.{Part}
use Rattle.sk_model.specs.Stands.{Standing, Payment, in_row}
use Rattle.sk_holes_standing.specs.Marks.{kept_if, some_of}
use Rattle.sk_holes_standing.proofs.MarkLaws.{kept_count}

next_place : (b : Bool) (p : Part Standing) (i j : ℕ) → j ≡ i + p.count → i + (kept_if b p).count ≡ j
next_place b p i j e = ap (λ n. i + n) (kept_count b p) ∙ sym e

next_item : {A : Type 0} (xs : List A) (k : ℕ) (x : A) → k < length xs → x ≡ get_or xs k x → drop k xs ≡ x ∷ drop (k + 1) xs
next_item xs k x below item = drop_more xs k x below ∙ ap (λ y. y ∷ drop (k + 1) xs) (sym item)

-- one more part, by what is called so far
pub row_called : {A : Type 0} (f : A → Part Standing) (test : ℕ → Bool) (k : ℕ) (xs : List A) (x : A) (called called' all : List ℕ) (i j : ℕ)
    → k < length xs → x ≡ get_or xs k x
    → called' ≡ called ++ ((kept_if (test k) (f x)).at i).called → j ≡ i + (f x).count
    → called ++ ((in_row (some_of test k (map f (drop k xs)))).at i).called ≡ all
    → called' ++ ((in_row (some_of test (k + 1) (map f (drop (k + 1) xs)))).at j).called ≡ all
row_called f test k xs x called called' all i j below item met place h =
    let here : List ℕ = ((kept_if (test k) (f x)).at i).called in
    let ps : List (Part Standing) = some_of test (k + 1) (map f (drop (k + 1) xs)) in
    ap (λ fs. fs ++ ((in_row ps).at j).called) met
    ∙ append_assoc called here ((in_row ps).at j).called
    ∙ ap (λ n. called ++ (here ++ ((in_row ps).at n).called)) (sym (next_place (test k) (f x) i j place))
    ∙ ap (λ ys. called ++ ((in_row (some_of test k (map f ys))).at i).called) (sym (next_item xs k x below item))
    ∙ h

-- one more part, by what is paid so far
pub row_paid : {A : Type 0} (f : A → Part Standing) (test : ℕ → Bool) (k : ℕ) (xs : List A) (x : A) (paid paid' all : List Payment) (i j : ℕ)
    → k < length xs → x ≡ get_or xs k x
    → paid' ≡ paid ++ ((kept_if (test k) (f x)).at i).paid → j ≡ i + (f x).count
    → paid ++ ((in_row (some_of test k (map f (drop k xs)))).at i).paid ≡ all
    → paid' ++ ((in_row (some_of test (k + 1) (map f (drop (k + 1) xs)))).at j).paid ≡ all
row_paid f test k xs x paid paid' all i j below item met place h =
    let here : List Payment = ((kept_if (test k) (f x)).at i).paid in
    let ps : List (Part Standing) = some_of test (k + 1) (map f (drop (k + 1) xs)) in
    ap (λ fs. fs ++ ((in_row ps).at j).paid) met
    ∙ append_assoc paid here ((in_row ps).at j).paid
    ∙ ap (λ n. paid ++ (here ++ ((in_row ps).at n).paid)) (sym (next_place (test k) (f x) i j place))
    ∙ ap (λ ys. paid ++ ((in_row (some_of test k (map f ys))).at i).paid) (sym (next_item xs k x below item))
    ∙ h

-- one more part, by the place of its sites
pub row_place : {A : Type 0} (f : A → Part Standing) (k : ℕ) (xs : List A) (x : A) (all i j : ℕ)
    → k < length xs → x ≡ get_or xs k x → j ≡ i + (f x).count
    → i + (in_row (map f (drop k xs))).count ≡ all
    → j + (in_row (map f (drop (k + 1) xs))).count ≡ all
row_place f k xs x all i j below item place h =
    let split : (in_row (map f (drop k xs))).count ≡ (f x).count + (in_row (map f (drop (k + 1) xs))).count = ap (λ ys. (in_row (map f ys)).count) (next_item xs k x below item) in
    omega (arith, split, place, h)
