-- Words and the signs in them, and numbers that are not too large.
use Rattle.std.proofs.Common.{◌≡◌, suc, ◌≤◌, ◌^◌, ◌==◌, ℕ, Bool, true, false, List, [], ◌∷◌, length, take, drop, Option, Some, None, refl, ap, arith}
use Rattle.std.specs.List.{list_all}
use Rattle.std.proofs.Math.Nat.{pow-le-pow_right}
use Rattle.sk_explain_notes.specs.Numbers.{is_number, between_commas, longer_first, front_of, back_of}

-- ten digits at most
pub power_within : (i : ℕ) → i ≤ 10 → 10 ^ i ≤ 10000000000
power_within i h = pow-le-pow_right (omega arith) h

-- what stands behind the first byte, where there is one
abbrev pub behind_first : List ℕ → Option (List ℕ)
behind_first [] = None
behind_first (b ∷ bs) = Some bs

pub front_taken : (sign : ℕ) (word : List ℕ) → take (length (front_of sign word)) word ≡ front_of sign word
front_taken sign [] = refl
front_taken sign (b ∷ bs) = split (front_taken sign bs) (b == sign) refl
  where
    split : take (length (front_of sign bs)) bs ≡ front_of sign bs → (same : Bool) → b == sign ≡ same → take (length (front_of sign (b ∷ bs))) (b ∷ bs) ≡ front_of sign (b ∷ bs)
    split rest true e = rw e refl
    split rest false e = rw e (ap (λ front. b ∷ front) rest)

pub back_left : (sign : ℕ) (word : List ℕ) → behind_first (drop (length (front_of sign word)) word) ≡ back_of sign word
back_left sign [] = refl
back_left sign (b ∷ bs) = split (back_left sign bs) (b == sign) refl
  where
    split :
        behind_first (drop (length (front_of sign bs)) bs) ≡ back_of sign bs
        → (same : Bool)
        → b == sign ≡ same
        → behind_first (drop (length (front_of sign (b ∷ bs))) (b ∷ bs)) ≡ back_of sign (b ∷ bs)
    split rest true e = rw e refl
    split rest false e = rw e rest

pub front_within : (sign : ℕ) (word : List ℕ) → length (front_of sign word) ≤ length word
front_within sign [] = omega arith
front_within sign (b ∷ bs) = split (front_within sign bs) (b == sign) refl
  where
    split : length (front_of sign bs) ≤ length bs → (same : Bool) → b == sign ≡ same → length (front_of sign (b ∷ bs)) ≤ suc (length bs)
    split rest true e = rw e (omega arith)
    split rest false e = rw e (omega (arith, rest))

-- the pieces behind a comma, where there is one
abbrev pub pieces_behind : Option (List ℕ) → List (List ℕ)
pieces_behind None = []
pieces_behind (Some rest) = between_commas rest

pub first_piece : (word : List ℕ) → between_commas word ≡ front_of 44 word ∷ pieces_behind (back_of 44 word)
first_piece [] = refl
first_piece (b ∷ bs) = split (first_piece bs) (b == 44) refl
  where
    split :
        between_commas bs ≡ front_of 44 bs ∷ pieces_behind (back_of 44 bs)
        → (same : Bool)
        → b == 44 ≡ same
        → between_commas (b ∷ bs) ≡ front_of 44 (b ∷ bs) ∷ pieces_behind (back_of 44 (b ∷ bs))
    split rest true e = rw e refl
    split rest false e = rw e (ap (longer_first b) rest)

-- each piece behind a comma is a number, where there is a comma
abbrev pub are_behind : Option (List ℕ) → Bool
are_behind back = list_all is_number (pieces_behind back)
