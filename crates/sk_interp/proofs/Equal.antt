-- When two numbers and two arrays are equal.
use Rattle.std.proofs.Common.{arith, ◌≡◌, ℤ, Bool, true, false, ◌&&◌, List, [], ◌∷◌, map, nat_eq, ◌<◌, ◌≤◌, ◌-◌, length, take, drop, get_or, refl, sym, ap, ◌∙◌, to_z, of_z, w64, FitsSigned}
use Rattle.std.proofs.lemmas.Grind.{common_steps}
use Rattle.std.proofs.lemmas.Int.{to_z-of_z}
use Rattle.std.proofs.lemmas.List.{length-drop}
use Rattle.std.proofs.Math.Seq.{take-length}
use Rattle.std.proofs.lemmas.Bool.{eqb-true, eq-eqb}
use Rattle.std.proofs.lemmas.Bool.Decides.{Decides-int_eq}
use Rattle.std.specs.Ordering.{int_eq}
use Rattle.sk_prog.specs.declared.value.Value.{Value}
use Rattle.sk_prog.specs.declared.value.Value.TheVariants as value
use Rattle.sk_prog.specs.declared.value.Value.TheFolds.{the_lemmas as value_lemmas}
use Rattle.sk_prog.specs.declared.value.Value.TheBlock.{Row_of-Value, end_of-Value, more_of-Value, items-the_row-Value, items_hidden-the_row-Value-0, hidden-the_row-Value-0}
use Rattle.sk_model.specs.Values.{equal, same_each}

both_ways : (a b : Bool) → (a ≡ true → b ≡ true) → (b ≡ true → a ≡ true) → a ≡ b
both_ways true b f g = sym (f refl)
both_ways false true f g = g refl
both_ways false false f g = refl

from_bits : (x y : ℤ) → FitsSigned w64 x → FitsSigned w64 y → of_z w64 x ≡ of_z w64 y → x ≡ y
from_bits x y f g e = sym (to_z-of_z w64 x f) ∙ ap (to_z w64) e ∙ to_z-of_z w64 y g

pub same_is : (x y : ℤ) → FitsSigned w64 x → FitsSigned w64 y → nat_eq (of_z w64 x) (of_z w64 y) ≡ int_eq x y
same_is x y f g =
    both_ways (nat_eq (of_z w64 x) (of_z w64 y)) (int_eq x y)
    (λ e. (Decides-int_eq x y).1 (from_bits x y f g (eqb-true (of_z w64 x) (of_z w64 y) e)))
    (λ e. eq-eqb (of_z w64 x) (of_z w64 y) (ap (of_z w64) ((Decides-int_eq x y).0 e)))

abbrev same_lists : List (Value → Bool) → List Value → Bool
same_lists [] [] = true
same_lists (p ∷ ps) (v ∷ vs) = p v && same_lists ps vs
same_lists _ _ = false

same_each_is : {m : _} (ps : List (Value → Bool)) (k : Row_of-Value m) → same_each ps k ≡ same_lists ps (items-the_row-Value _ k)
same_each_is [] end_of-Value = refl
same_each_is [] (more_of-Value v vs) = refl
same_each_is (p ∷ ps) end_of-Value = refl
same_each_is (p ∷ ps) (more_of-Value v vs) = ap (λ b. p v && b) (same_each_is ps vs)

roll : (xs ys : List Value) → equal (value.Array xs) (value.Array ys) ≡ same_each (map equal xs) (hidden-the_row-Value-0 ys)
roll xs ys = grind (arith, common_steps, value_lemmas)

equal_is : (xs ys : List Value) → equal (value.Array xs) (value.Array ys) ≡ same_lists (map equal xs) ys
equal_is xs ys = roll xs ys ∙ same_each_is (map equal xs) (hidden-the_row-Value-0 ys) ∙ ap (same_lists (map equal xs)) (items_hidden-the_row-Value-0 ys)

module _ (xs ys : List Value) where
  pub both_empty : length xs < 1 → length ys < 1 → true ≡ equal (value.Array xs) (value.Array ys)
  both_empty h k = sym (equal_is xs ys ∙ by xs ys h k)
    where
      by : (xs ys : List Value) → length xs < 1 → length ys < 1 → same_lists (map equal xs) ys ≡ true
      by [] [] h k = refl
      by [] (y ∷ ys) h k = absurd (omega (arith, k))
      by (x ∷ xs) ys h k = absurd (omega (arith, h))

  pub second_longer : length xs < 1 → 1 ≤ length ys → false ≡ equal (value.Array xs) (value.Array ys)
  second_longer h k = sym (equal_is xs ys ∙ by xs ys h k)
    where
      by : (xs ys : List Value) → length xs < 1 → 1 ≤ length ys → same_lists (map equal xs) ys ≡ false
      by [] [] h k = absurd (omega (arith, k))
      by [] (y ∷ ys) h k = refl
      by (x ∷ xs) ys h k = absurd (omega (arith, h))

  pub first_longer : 1 ≤ length xs → length ys < 1 → false ≡ equal (value.Array xs) (value.Array ys)
  first_longer h k = sym (equal_is xs ys ∙ by xs ys h k)
    where
      by : (xs ys : List Value) → 1 ≤ length xs → length ys < 1 → same_lists (map equal xs) ys ≡ false
      by [] ys h k = absurd (omega (arith, h))
      by (x ∷ xs) [] h k = refl
      by (x ∷ xs) (y ∷ ys) h k = absurd (omega (arith, k))

  pub both_next : (x y : Value) → 1 ≤ length xs → 1 ≤ length ys → x ≡ get_or xs 0 x → y ≡ get_or ys 0 y → (equal x y && equal (value.Array (drop 1 xs)) (value.Array (drop 1 ys))) ≡ equal (value.Array xs) (value.Array ys)
  both_next x y h k ex ey = ap (λ b. equal x y && b) (equal_is (drop 1 xs) (drop 1 ys)) ∙ by xs ys h k ex ey ∙ sym (equal_is xs ys)
    where
      by : (xs ys : List Value) → 1 ≤ length xs → 1 ≤ length ys → x ≡ get_or xs 0 x → y ≡ get_or ys 0 y → (equal x y && same_lists (map equal (drop 1 xs)) (drop 1 ys)) ≡ same_lists (map equal xs) ys
      by [] ys h k ex ey = absurd (omega (arith, h))
      by (x' ∷ xs) [] h k ex ey = absurd (omega (arith, k))
      by (x' ∷ xs) (y' ∷ ys) h k ex ey = rw (ex, ey) refl

  pub next_equal : (x y : Value) (b : Bool) → 1 ≤ length xs → 1 ≤ length ys → x ≡ get_or xs 0 x → y ≡ get_or ys 0 y → equal x y ≡ true → b ≡ equal (value.Array (drop 1 xs)) (value.Array (drop 1 ys)) → b ≡ equal (value.Array xs) (value.Array ys)
  next_equal x y b h k ex ey t e = e ∙ sym (ap (λ c. c && equal (value.Array (drop 1 xs)) (value.Array (drop 1 ys))) t) ∙ both_next x y h k ex ey

  pub next_other : (x y : Value) → 1 ≤ length xs → 1 ≤ length ys → x ≡ get_or xs 0 x → y ≡ get_or ys 0 y → equal x y ≡ false → false ≡ equal (value.Array xs) (value.Array ys)
  next_other x y h k ex ey t = sym (ap (λ c. c && equal (value.Array (drop 1 xs)) (value.Array (drop 1 ys))) t) ∙ both_next x y h k ex ey

-- all after the first
all_after : (xs : List Value) → take (length xs - 1) (drop 1 xs) ≡ drop 1 xs
all_after xs = ap (λ n. take n (drop 1 xs)) (sym (length-drop 1 xs)) ∙ take-length (drop 1 xs)

pub next_sliced : (xs ys : List Value) (x y : Value) (b : Bool) → 1 ≤ length xs → 1 ≤ length ys → x ≡ get_or xs 0 x → y ≡ get_or ys 0 y → equal x y ≡ true → b ≡ equal (value.Array (take (length xs - 1) (drop 1 xs))) (value.Array (take (length ys - 1) (drop 1 ys))) → b ≡ equal (value.Array xs) (value.Array ys)
next_sliced xs ys x y b h k ex ey t e = next_equal xs ys x y b h k ex ey t (e ∙ (λ i. equal (value.Array (all_after xs i)) (value.Array (all_after ys i))))

pub ruleset arrays = (both_empty, second_longer, first_longer, next_equal, next_other)
