-- Parts and functions one after another, by the marks so far.
use Rattle.std.proofs.Common.{◌≡◌, ℕ, ◌+◌, ◌<◌, ◌≤◌, ◌&&◌, Bool, List, [], ◌∷◌, ◌++◌, map, length, drop, get_or, refl, sym, ap, ◌∙◌, append_assoc, arith}
use Rattle.std.proofs.lemmas.List.{drop_more, length-map}
use Rattle.sk_prog.specs.declared.prog.Fun.{Fun}
use Rattle.sk_model.specs.Parts.{total}
use Rattle.sk_holes_marks.specs.Marking.{Marking, in_row, counts, some_of, body_marking}
use Rattle.sk_holes_marks.specs.Words.{sites_of, marks_of_funs}

next_item : {A : Type 0} (xs : List A) (k : ℕ) (x : A) → k < length xs → x ≡ get_or xs k x → drop k xs ≡ x ∷ drop (k + 1) xs
next_item xs k x below item = drop_more xs k x below ∙ ap (λ y. y ∷ drop (k + 1) xs) (sym item)

-- one more part of which a test says whether it stands
pub row_marks : {A : Type 0} (f : A → Marking) (test : ℕ → Bool) (b met : Bool) (k : ℕ) (xs : List A) (x : A) (done longer whole : List Bool)
    → k < length xs → x ≡ get_or xs k x → met ≡ (test k && b)
    → longer ≡ done ++ (f x).at met (length done)
    → length longer ≡ length done + (f x).count
    → done ++ (in_row (some_of test k (map f (drop k xs)))).at b (length done) ≡ whole
    → longer ++ (in_row (some_of test (k + 1) (map f (drop (k + 1) xs)))).at b (length longer) ≡ whole
row_marks f test b met k xs x done longer whole below item is more long h =
    let i : ℕ = length done in
    let here : List Bool = (f x).at (test k && b) i in
    let q : Marking = in_row (some_of test (k + 1) (map f (drop (k + 1) xs))) in
    ap (λ ms. ms ++ q.at b (length longer)) (more ∙ ap (λ c. done ++ (f x).at c i) is)
    ∙ append_assoc done here (q.at b (length longer))
    ∙ ap (λ n. done ++ (here ++ q.at b n)) long
    ∙ ap (λ ys. done ++ (in_row (some_of test k (map f ys))).at b i) (sym (next_item xs k x below item))
    ∙ h

-- one more part, by the place of its sites
pub row_place : {A : Type 0} (f : A → Marking) (k : ℕ) (xs : List A) (x : A) (whole i j : ℕ)
    → k < length xs → x ≡ get_or xs k x → j ≡ i + (f x).count
    → i + (in_row (map f (drop k xs))).count ≡ whole
    → j + (in_row (map f (drop (k + 1) xs))).count ≡ whole
row_place f k xs x whole i j below item place h =
    let split : (in_row (map f (drop k xs))).count ≡ (f x).count + (in_row (map f (drop (k + 1) xs))).count = ap (λ ys. (in_row (map f ys)).count) (next_item xs k x below item) in
    omega (arith, split, place, h)

pub row_count : (ps : List Marking) → (in_row ps).count ≡ counts ps
row_count [] = refl
row_count (p ∷ ps) = ap (λ n. p.count + n) (row_count ps)

pub ruleset rows = (row_count)

pub ruleset mapped = (length-map)

-- one more function
pub one_marked : (values : List ℕ) (bs : List Bool) (fs : List Fun) (n : ℕ) (b : Bool) (f : Fun) (done longer whole : List Bool)
    → n < length bs → n < length fs → b ≡ get_or bs n b → f ≡ get_or fs n f
    → longer ≡ done ++ (body_marking values f.body).at b (length done)
    → length longer ≡ length done + sites_of values f
    → done ++ marks_of_funs values (drop n bs) (length done) (drop n fs) ≡ whole
    → longer ++ marks_of_funs values (drop (n + 1) bs) (length longer) (drop (n + 1) fs) ≡ whole
one_marked values bs fs n b f done longer whole within below read item more long h =
    let i : ℕ = length done in
    let here : List Bool = (body_marking values f.body).at b i in
    let cs : List Bool = drop (n + 1) bs in
    let gs : List Fun = drop (n + 1) fs in
    let split : drop n bs ≡ b ∷ cs = drop_more bs n b within ∙ ap (λ c. c ∷ cs) (sym read) in
    ap (λ ms. ms ++ marks_of_funs values cs (length longer) gs) more
    ∙ append_assoc done here (marks_of_funs values cs (length longer) gs)
    ∙ ap (λ k. done ++ (here ++ marks_of_funs values cs k gs)) long
    ∙ (λ j. done ++ marks_of_funs values (sym split j) i (sym (next_item fs n f below item) j))
    ∙ h

-- there is room for the functions behind the next one
pub one_passed : (values : List ℕ) (fs : List Fun) (n i j most : ℕ) (f : Fun)
    → n < length fs → f ≡ get_or fs n f → j ≡ i + sites_of values f
    → i + total (map (sites_of values) (drop n fs)) ≤ most
    → j + total (map (sites_of values) (drop (n + 1) fs)) ≤ most
one_passed values fs n i j most f below item passed h =
    let split : total (map (sites_of values) (drop n fs)) ≡ sites_of values f + total (map (sites_of values) (drop (n + 1) fs)) = ap (λ gs. total (map (sites_of values) gs)) (next_item fs n f below item) in
    omega (arith, split, passed, h)

-- there is room for the next function
pub one_fits : (values : List ℕ) (fs : List Fun) (n i most : ℕ) (f : Fun)
    → n < length fs → f ≡ get_or fs n f
    → i + total (map (sites_of values) (drop n fs)) ≤ most
    → i + sites_of values f ≤ most
one_fits values fs n i most f below item h =
    let split : total (map (sites_of values) (drop n fs)) ≡ sites_of values f + total (map (sites_of values) (drop (n + 1) fs)) = ap (λ gs. total (map (sites_of values) gs)) (next_item fs n f below item) in
    omega (arith, split, h)

pub ruleset functions = (one_marked, one_passed, one_fits)
