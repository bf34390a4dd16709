-- Names of copies end as such, and each number makes names of its own.
use Rattle.std.proofs.Common.{◌≡◌, ℕ, ◌+◌, ◌<◌, Bool, true, false, List, [], ◌∷◌, ◌++◌, length, refl, sym, ap, ◌∙◌, arith}
use Rattle.std.specs.Prelude.{◌&&◌, ◌||◌, ◌^◌, ◌%◌, not, if◌then◌else◌}
use Rattle.std.specs.List.{list_all}
use Rattle.std.specs.Str.{bytes_eq}
use Rattle.std.specs.Fmt.{decimal}
use Rattle.std.proofs.lemmas.Bool.{le-leb}
use Rattle.std.proofs.lemmas.Fmt.{decimal_by_steps, decimal_nonempty, decimal_injective}
use Rattle.std.proofs.lemmas.List.Folds.{list_all-append}
use Rattle.std.proofs.lemmas.Slice.Eq.{bytes_eq-Decides}
use Rattle.sk_types_rules.specs.Types.{is_digit, is_digits, is_copy_mark, ends_as_copy, is_free}
use Rattle.sk_model.specs.Expand.{copy_name}

-- Digits

digit : (d : ℕ) → d < 10 → is_digit (48 + d) ≡ true
digit d h = rw (le-leb 48 (48 + d) (omega arith), le-leb (48 + d) 57 (omega (arith, h))) refl

pub digits_of : (n : ℕ) → n < 2 ^ 64 → list_all is_digit (decimal n) ≡ true
digits_of n h = decimal_by_steps (λ m ds. list_all is_digit ds ≡ true)
    (λ m less. ap (λ b. b && true) (digit m less))
    (λ m ds more so_far. list_all-append is_digit ds ((48 + m % 10) ∷ []) ∙ (λ i. so_far i && (digit (m % 10) (omega arith) i && true)))
    n h

are_digits : (ds : List ℕ) → 0 < length ds → list_all is_digit ds ≡ true → is_digits ds ≡ true
are_digits [] h is = absurd (omega (arith, h))
are_digits (d ∷ ds) h is = is

-- How a name ends

or_true : (b : Bool) → (b || true) ≡ true
or_true true = refl
or_true false = refl

and_false : (b : Bool) → (b && false) ≡ false
and_false true = refl
and_false false = refl

ends_marked : (x ds : List ℕ) → is_digits ds ≡ true → ends_as_copy (x ++ (95 ∷ 95 ∷ ds)) ≡ true
ends_marked [] ds h = ap (λ b. b || ends_as_copy (95 ∷ ds)) h
ends_marked (a ∷ x) ds h = ap (λ b. is_copy_mark (a ∷ (x ++ (95 ∷ 95 ∷ ds))) || b) (ends_marked x ds h) ∙ or_true (is_copy_mark (a ∷ (x ++ (95 ∷ 95 ∷ ds))))

-- the digits at the end of a name
abbrev ending : List ℕ → List ℕ
ending [] = []
ending (b ∷ bs) = if list_all is_digit (b ∷ bs) then b ∷ bs else ending bs

not_all : (x ds : List ℕ) → list_all is_digit (x ++ (95 ∷ ds)) ≡ false
not_all [] ds = refl
not_all (a ∷ x) ds = ap (λ b. is_digit a && b) (not_all x ds) ∙ and_false (is_digit a)

ending_digits : (ds : List ℕ) → list_all is_digit ds ≡ true → ending ds ≡ ds
ending_digits [] h = refl
ending_digits (d ∷ ds) h = ap (λ b. if b then d ∷ ds else ending ds) h

ending_marked : (x ds : List ℕ) → list_all is_digit ds ≡ true → ending (x ++ (95 ∷ 95 ∷ ds)) ≡ ds
ending_marked [] ds h = ending_digits ds h
ending_marked (a ∷ x) ds h = ap (λ b. if b then a ∷ (x ++ (95 ∷ 95 ∷ ds)) else ending (x ++ (95 ∷ 95 ∷ ds))) (not_all (a ∷ x) (95 ∷ ds)) ∙ ending_marked x ds h

-- A copy's name ends as such.
pub copy_ends : (x : List ℕ) (k : ℕ) → k < 2 ^ 64 → ends_as_copy (copy_name x k) ≡ true
copy_ends x k h = ends_marked x (decimal k) (are_digits (decimal k) (decimal_nonempty k h) (digits_of k h))

-- The name of a copy tells its number.
pub copy_number : (x y : List ℕ) (k l : ℕ) → k < 2 ^ 64 → l < 2 ^ 64 → copy_name x k ≡ copy_name y l → k ≡ l
copy_number x y k l h j e = decimal_injective k l h j (sym (ending_marked x (decimal k) (digits_of k h)) ∙ ap ending e ∙ ending_marked y (decimal l) (digits_of l j))

-- Names that differ

pub other : (x y : List ℕ) → (x ≡ y → ⊥) → bytes_eq x y ≡ false
other x y h = go (bytes_eq x y) refl
  where
    go : (b : Bool) → bytes_eq x y ≡ b → b ≡ false
    go true is = absurd (h ((bytes_eq-Decides x y).0 is))
    go false is = refl

-- A free name is no name of a copy.
pub free_other : (x y : List ℕ) (k : ℕ) → k < 2 ^ 64 → is_free x ≡ true → bytes_eq x (copy_name y k) ≡ false
free_other x y k h free = other x (copy_name y k) (λ e. clash (ap not (ap ends_as_copy e ∙ copy_ends y k h)))
  where
    clash : is_free x ≡ false → ⊥
    clash is = let z : true ≡ false = sym free ∙ is in cc

pub copies_other : (x y : List ℕ) (k l : ℕ) → k < 2 ^ 64 → l < 2 ^ 64 → k < l → bytes_eq (copy_name x k) (copy_name y l) ≡ false
copies_other x y k l h j less = other (copy_name x k) (copy_name y l) (λ e. let same = copy_number x y k l h j e in omega (arith, less, same))
