-- Items of lists, and places of names.
use Rattle.std.proofs.Common.{◌≡◌, ℕ, zero, suc, ◌+◌, Bool, true, false, List, [], ◌∷◌, ◌++◌, length, Option, Some, None, refl, sym, ap, ◌∙◌, subst, arith, inl, inr}
use Rattle.std.specs.Prelude.{◌||◌, ◌⊎◌, not, map, slice_get, if◌then◌else◌}
use Rattle.std.specs.List.{list_any}
use Rattle.std.specs.Str.{bytes_eq}
use Rattle.std.proofs.lemmas.Bool.{and_parts}
use Rattle.std.proofs.lemmas.List.Folds.{list_any-append}
use Rattle.std.proofs.lemmas.Slice.Eq.{bytes_eq-Decides}
use Rattle.sk_types_rules.specs.declared.scope.Variable.{Variable}
use Rattle.sk_types_rules.specs.declared.scope.Place.{Place}
use Rattle.sk_types_rules.specs.Scope.{latest, lookup, all_distinct, place_of, next_place}

-- Items

pub get_front : {X : Type 0} (xs ys : List X) (i : ℕ) (x : X) → slice_get xs i ≡ Some x → slice_get (xs ++ ys) i ≡ Some x
get_front [] ys i x h = cc
get_front (z ∷ xs) ys zero x h = h
get_front (z ∷ xs) ys (suc i) x h = get_front xs ys i x h

pub get_behind : {X : Type 0} (xs ys : List X) (i : ℕ) (x : X) → slice_get ys i ≡ Some x → slice_get (xs ++ ys) (length xs + i) ≡ Some x
get_behind [] ys i x h = let e : i ≡ 0 + i = omega arith in subst (λ n. slice_get ys n ≡ Some x) e h
get_behind (z ∷ xs) ys i x h = let e : suc (length xs + i) ≡ suc (length xs) + i = omega arith in subst (λ n. slice_get (z ∷ (xs ++ ys)) n ≡ Some x) e (get_behind xs ys i x h)

pub get_parts : {X : Type 0} (xs ys : List X) (i : ℕ) (x : X) → slice_get (xs ++ ys) i ≡ Some x → (slice_get xs i ≡ Some x) ⊎ ((j : ℕ) × (i ≡ length xs + j) × (slice_get ys j ≡ Some x))
get_parts [] ys i x h = inr (i, omega arith, h)
get_parts (z ∷ xs) ys zero x h = inl h
get_parts (z ∷ xs) ys (suc i) x h = elim (get_parts xs ys i x h) [
  | inl f ↦ inl f
  | inr f ↦ let e = f.1 in inr (f.0, omega (arith, e), f.2)
]

pub get_map : {X Y : Type 0} (f : X → Y) (xs : List X) (i : ℕ) (x : X) → slice_get xs i ≡ Some x → slice_get (map f xs) i ≡ Some (f x)
get_map f [] i x h = cc
get_map f (z ∷ xs) zero x h = let e : z ≡ x = cc in ap (λ y. Some (f y)) e
get_map f (z ∷ xs) (suc i) x h = get_map f xs i x h

pub map_get : {X Y : Type 0} (f : X → Y) (xs : List X) (i : ℕ) (y : Y) → slice_get (map f xs) i ≡ Some y → (x : X) × (slice_get xs i ≡ Some x) × (f x ≡ y)
map_get f [] i y h = cc
map_get f (z ∷ xs) zero y h = let e : f z ≡ y = cc in (z, refl, e)
map_get f (z ∷ xs) (suc i) y h = map_get f xs i y h

pub get_same : {X : Type 0} (o : Option X) (x y : X) → o ≡ Some x → o ≡ Some y → x ≡ y
get_same o x y h k = let e : Some x ≡ Some y = sym h ∙ k in cc

-- Names

pub name_self : (x : List ℕ) → bytes_eq x x ≡ true
name_self x = (bytes_eq-Decides x x).1 refl

pub no_or : (a b : Bool) → (a || b) ≡ false → (a ≡ false) × (b ≡ false)
no_or false false h = (refl, refl)
no_or false true h = cc
no_or true b h = cc

pub not_true : (b : Bool) → not b ≡ true → b ≡ false
not_true true h = cc
not_true false h = refl

pub not_any : {X : Type 0} (test : X → Bool) (xs : List X) (i : ℕ) (x : X) → slice_get xs i ≡ Some x → list_any test xs ≡ false → test x ≡ false
not_any test [] i x h none = cc
not_any test (z ∷ xs) zero x h none = let e : z ≡ x = cc in ap test (sym e) ∙ (no_or (test z) (list_any test xs) none).0
not_any test (z ∷ xs) (suc i) x h none = not_any test xs i x h (no_or (test z) (list_any test xs) none).1

pub none_parts : {X : Type 0} (test : X → Bool) (xs ys : List X) → list_any test (xs ++ ys) ≡ false → (list_any test xs ≡ false) × (list_any test ys ≡ false)
none_parts test xs ys h = no_or (list_any test xs) (list_any test ys) (sym (list_any-append test xs ys) ∙ h)

-- A name that stands once has its place.
pub place_is : (xs : List (List ℕ)) (i : ℕ) (x : List ℕ) → all_distinct xs ≡ true → slice_get xs i ≡ Some x → place_of xs x ≡ Some i
place_is [] i x d h = cc
place_is (y ∷ ys) zero x d h = let e : y ≡ x = cc in ap (λ b. if b then Some 0 else next_place (place_of ys x)) (ap (bytes_eq y) (sym e) ∙ name_self y)
place_is (y ∷ ys) (suc i) x d h =
    let a = and_parts (not (list_any (bytes_eq y) ys)) (all_distinct ys) d in
    ap (λ b. if b then Some 0 else next_place (place_of ys x)) (not_any (bytes_eq y) ys i x h (not_true (list_any (bytes_eq y) ys) a.0))
    ∙ ap next_place (place_is ys i x a.1 h)

-- A name that stands behind others is none of them.
pub no_place : (xs ys : List (List ℕ)) (i : ℕ) (x : List ℕ) → all_distinct (xs ++ ys) ≡ true → slice_get ys i ≡ Some x → place_of xs x ≡ None
no_place [] ys i x d h = refl
no_place (y ∷ xs) ys i x d h =
    let a = and_parts (not (list_any (bytes_eq y) (xs ++ ys))) (all_distinct (xs ++ ys)) d in
    let n = none_parts (bytes_eq y) xs ys (not_true (list_any (bytes_eq y) (xs ++ ys)) a.0) in
    ap (λ b. if b then Some 0 else next_place (place_of xs x)) (not_any (bytes_eq y) ys i x h n.1)
    ∙ ap next_place (no_place xs ys i x a.1 h)

pub distinct_rest : (xs ys : List (List ℕ)) → all_distinct (xs ++ ys) ≡ true → all_distinct ys ≡ true
distinct_rest [] ys d = d
distinct_rest (y ∷ xs) ys d = distinct_rest xs ys (and_parts (not (list_any (bytes_eq y) (xs ++ ys))) (all_distinct (xs ++ ys)) d).1

-- what has a place stands there
pub placed_name : (xs : List (List ℕ)) (x : List ℕ) (i : ℕ) → place_of xs x ≡ Some i → slice_get xs i ≡ Some x
placed_name [] x i h = cc
placed_name (y ∷ ys) x i h = first (bytes_eq y x) refl h (λ j k. placed_name ys x j k)
  where
    later : (o : Option ℕ) (j : ℕ) → place_of ys x ≡ o → next_place o ≡ Some j → ((n : ℕ) → place_of ys x ≡ Some n → slice_get ys n ≡ Some x) → slice_get (y ∷ ys) j ≡ Some x
    later None j is h rest = cc
    later (Some n) j is h rest = let e : suc n ≡ j = cc in subst (λ j. slice_get (y ∷ ys) j ≡ Some x) e (rest n is)

    first : (b : Bool) → bytes_eq y x ≡ b → (if b then Some 0 else next_place (place_of ys x)) ≡ Some i → ((n : ℕ) → place_of ys x ≡ Some n → slice_get ys n ≡ Some x) → slice_get (y ∷ ys) i ≡ Some x
    first true is h rest = let e : 0 ≡ i = cc in subst (λ i. slice_get (y ∷ ys) i ≡ Some x) e (ap Some ((bytes_eq-Decides y x).0 is))
    first false is h rest = later (place_of ys x) i refl h rest

-- A variable that is added hides no other name.
latest_more : (k : ℕ) (found : Option Place) (vs : List Variable) (v : Variable) (x : List ℕ) → bytes_eq v.name x ≡ false → latest k found (vs ++ (v ∷ [])) x ≡ latest k found vs x
latest_more k found [] v x h = ap (λ b. if b then Some (record { slot = k; ty = v.ty }) else found) h
latest_more k found (w ∷ vs) v x h = latest_more (suc k) (if bytes_eq w.name x then Some (record { slot = k; ty = w.ty }) else found) vs v x h

pub lookup_more : (vs : List Variable) (v : Variable) (x : List ℕ) → bytes_eq v.name x ≡ false → lookup (vs ++ (v ∷ [])) x ≡ lookup vs x
lookup_more vs v x h = latest_more 0 None vs v x h
