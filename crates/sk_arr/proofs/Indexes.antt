-- Indexes and places.
use Rattle.std.proofs.Common.{◌≡◌, ℕ, ◌≤◌, Bool, true, false, not, ◌||◌, ℤ, pos, negsuc, ◌<ℤ◌, refl, ap, subst, arith}
use Rattle.std.specs.Prelude.{int_lt, nat_lt}
use Rattle.std.specs.Ordering.{int_eq}
use Rattle.std.proofs.lemmas.Int.{ints}
use Rattle.std.proofs.lemmas.Bool.{lt-ltb, ltb-true}
use Rattle.std.proofs.lemmas.Bool.Decides.{Decides-int_eq}
use Rattle.sk_base.specs.Word.{IsWord, half}
use Rattle.sk_base.proofs.Words.{half_pos}
use Rattle.sk_arr.specs.Places.{is_within}

pub zero_word : (w : ℕ) → IsWord w (pos 0)
zero_word w = record { low = omega (arith, ints); high = omega (arith, ints, half_pos w) }

none_below : (i : ℕ) → nat_lt i 0 ≡ false
none_below i = by (nat_lt i 0) refl
  where
    by : (b : Bool) → nat_lt i 0 ≡ b → b ≡ false
    by false e = refl
    by true e = absurd (omega (arith, ltb-true i 0 e))

pub outside_is : (count : ℕ) (z : ℤ) → (int_lt z (pos 0) || not (int_lt z (pos count))) ≡ not (is_within count z)
outside_is count (pos i) = ap (λ b. b || not (nat_lt i count)) (none_below i)
outside_is count (negsuc i) = refl

-- no word is a place above all words
pub never_at : (w place : ℕ) (z : ℤ) → half w ≤ place → IsWord w z → int_eq z (pos place) ≡ false
never_at w place z h word = by (int_eq z (pos place)) refl
  where
    by : (b : Bool) → int_eq z (pos place) ≡ b → b ≡ false
    by false e = refl
    by true e = let same = (Decides-int_eq z (pos place)).0 e in let high = subst (λ x. x <ℤ pos (half w)) same word.high in absurd (omega (arith, ints, high, h))

pub always_below : (w count : ℕ) (z : ℤ) → half w ≤ count → IsWord w z → int_lt z (pos count) ≡ true
always_below w count (negsuc i) h word = refl
always_below w count (pos i) h word = lt-ltb i count (omega (arith, ints, word.high, h))

pub ruleset places = (zero_word, outside_is, never_at, always_below)
