-- Parts of which each stands by its own test, one after another.
use Rattle.std.proofs.Common.{◌≡◌, ℕ, ◌+◌, ◌<◌, List, [], ◌∷◌, ◌++◌, map, length, drop, get_or, refl, sym, ap, ◌∙◌, append_assoc, arith}
use Rattle.std.proofs.lemmas.List.{drop_more, length-map}
use Rattle.sk_model.specs.Parts.{counts}
use Rattle.sk_sym_choices.specs.declared.guard.Test.{Test}
use Rattle.sk_sym_choices.specs.declared.guard.Called.{Called}
use Rattle.sk_sym_choices.specs.declared.guard.Owed.{Owed}
use Rattle.sk_sym_choices.specs.Guards.{Guards, under, each_under}

-- a list of parts is as long as the list that it is made of
pub ruleset mapped = (length-map)

next_item : {A : Type 0} (xs : List A) (k : ℕ) (x : A) → k < length xs → x ≡ get_or xs k x → drop k xs ≡ x ∷ drop (k + 1) xs
next_item xs k x below item = drop_more xs k x below ∙ ap (λ y. y ∷ drop (k + 1) xs) (sym item)

-- one more part, by what is called so far
pub row_called : {A : Type 0} (f : A → Guards) (test : ℕ → Test) (path : List Test) (k : ℕ) (xs : List A) (x : A) (called called' all : List Called) (i j : ℕ)
    → k < length xs → x ≡ get_or xs k x
    → called' ≡ called ++ ((under (test k) (f x)).at i path).called → j ≡ i + (f x).count
    → called ++ ((each_under test k (map f (drop k xs))).at i path).called ≡ all
    → called' ++ ((each_under test (k + 1) (map f (drop (k + 1) xs))).at j path).called ≡ all
row_called f test path k xs x called called' all i j below item met place h =
    let here : List Called = ((under (test k) (f x)).at i path).called in
    let ps : List Guards = map f (drop (k + 1) xs) in
    ap (λ fs. fs ++ ((each_under test (k + 1) ps).at j path).called) met
    ∙ append_assoc called here ((each_under test (k + 1) ps).at j path).called
    ∙ ap (λ n. called ++ (here ++ ((each_under test (k + 1) ps).at n path).called)) place
    ∙ ap (λ ys. called ++ ((each_under test k (map f ys)).at i path).called) (sym (next_item xs k x below item))
    ∙ h

-- one more part, by what is owed so far
pub row_owed : {A : Type 0} (f : A → Guards) (test : ℕ → Test) (path : List Test) (k : ℕ) (xs : List A) (x : A) (owed owed' all : List Owed) (i j : ℕ)
    → k < length xs → x ≡ get_or xs k x
    → owed' ≡ owed ++ ((under (test k) (f x)).at i path).owed → j ≡ i + (f x).count
    → owed ++ ((each_under test k (map f (drop k xs))).at i path).owed ≡ all
    → owed' ++ ((each_under test (k + 1) (map f (drop (k + 1) xs))).at j path).owed ≡ all
row_owed f test path k xs x owed owed' all i j below item met place h =
    let here : List Owed = ((under (test k) (f x)).at i path).owed in
    let ps : List Guards = map f (drop (k + 1) xs) in
    ap (λ fs. fs ++ ((each_under test (k + 1) ps).at j path).owed) met
    ∙ append_assoc owed here ((each_under test (k + 1) ps).at j path).owed
    ∙ ap (λ n. owed ++ (here ++ ((each_under test (k + 1) ps).at n path).owed)) place
    ∙ ap (λ ys. owed ++ ((each_under test k (map f ys)).at i path).owed) (sym (next_item xs k x below item))
    ∙ h

-- one more part, by the place of its sites
pub row_place : {A : Type 0} (f : A → Guards) (test : ℕ → Test) (k : ℕ) (xs : List A) (x : A) (all i j : ℕ)
    → k < length xs → x ≡ get_or xs k x → j ≡ i + (f x).count
    → i + (each_under test k (map f (drop k xs))).count ≡ all
    → j + (each_under test (k + 1) (map f (drop (k + 1) xs))).count ≡ all
row_place f test k xs x all i j below item place h =
    let split : (each_under test k (map f (drop k xs))).count ≡ (f x).count + (each_under test (k + 1) (map f (drop (k + 1) xs))).count = ap (λ ys. (each_under test k (map f ys)).count) (next_item xs k x below item) in
    omega (arith, split, place, h)

-- parts under their tests have the sites of the parts
pub under_count : (test : ℕ → Test) (k : ℕ) (ps : List Guards) → (each_under test k ps).count ≡ counts ps
under_count test k [] = refl
under_count test k (p ∷ ps) = ap (λ n. p.count + n) (under_count test (k + 1) ps)

pub ruleset counting = (under_count)
