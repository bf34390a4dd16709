-- What stands between signs.
use Rattle.std.proofs.Common.{◌≡◌, suc, ◌≤◌, ◌==◌, ℕ, Bool, true, false, List, [], ◌∷◌, ◌++◌, length, take, drop, Option, Some, None, refl, sym, ap, ◌∙◌, append_assoc, arith}
use Rattle.sk_explain_answers.specs.Pieces.{longer_first, front_of, back_of, pieces}

-- what stands behind the first byte, where there is one
abbrev pub behind_first : List ℕ → Option (List ℕ)
behind_first [] = None
behind_first (b ∷ bs) = Some bs

pub front_taken : (sign : ℕ) (word : List ℕ) → take (length (front_of sign word)) word ≡ front_of sign word
front_taken sign [] = refl
front_taken sign (b ∷ bs) = split (front_taken sign bs) (b == sign) refl
  where
    split : take (length (front_of sign bs)) bs ≡ front_of sign bs → (same : Bool) → b == sign ≡ same → take (length (front_of sign (b ∷ bs))) (b ∷ bs) ≡ front_of sign (b ∷ bs)
    split rest true e = rw e refl
    split rest false e = rw e (ap (λ front. b ∷ front) rest)

pub back_left : (sign : ℕ) (word : List ℕ) → behind_first (drop (length (front_of sign word)) word) ≡ back_of sign word
back_left sign [] = refl
back_left sign (b ∷ bs) = split (back_left sign bs) (b == sign) refl
  where
    split :
        behind_first (drop (length (front_of sign bs)) bs) ≡ back_of sign bs
        → (same : Bool)
        → b == sign ≡ same
        → behind_first (drop (length (front_of sign (b ∷ bs))) (b ∷ bs)) ≡ back_of sign (b ∷ bs)
    split rest true e = rw e refl
    split rest false e = rw e rest

pub front_within : (sign : ℕ) (word : List ℕ) → length (front_of sign word) ≤ length word
front_within sign [] = omega arith
front_within sign (b ∷ bs) = split (front_within sign bs) (b == sign) refl
  where
    split : length (front_of sign bs) ≤ length bs → (same : Bool) → b == sign ≡ same → length (front_of sign (b ∷ bs)) ≤ suc (length bs)
    split rest true e = rw e (omega arith)
    split rest false e = rw e (omega (arith, rest))

-- the pieces behind a sign, where there is one
abbrev pub pieces_behind : ℕ → Option (List ℕ) → List (List ℕ)
pieces_behind sign None = []
pieces_behind sign (Some rest) = pieces sign rest

pub first_piece : (sign : ℕ) (bytes : List ℕ) → pieces sign bytes ≡ front_of sign bytes ∷ pieces_behind sign (back_of sign bytes)
first_piece sign [] = refl
first_piece sign (b ∷ bs) = split (first_piece sign bs) (b == sign) refl
  where
    split :
        pieces sign bs ≡ front_of sign bs ∷ pieces_behind sign (back_of sign bs)
        → (same : Bool)
        → b == sign ≡ same
        → pieces sign (b ∷ bs) ≡ front_of sign (b ∷ bs) ∷ pieces_behind sign (back_of sign (b ∷ bs))
    split rest true e = rw e refl
    split rest false e = rw e (ap (longer_first b) rest)

-- the first piece of what is left stands behind the others
pub piece_pushed : (sign : ℕ) (list longer all : List (List ℕ)) (rest piece : List ℕ) (behind : Option (List ℕ)) → piece ≡ front_of sign rest → behind ≡ back_of sign rest → longer ≡ list ++ piece ∷ [] → list ++ pieces sign rest ≡ all → longer ++ pieces_behind sign behind ≡ all
piece_pushed sign list longer all rest piece behind front back long so =
    ap (λ (xs : List (List ℕ)). xs ++ pieces_behind sign behind) long
    ∙ append_assoc list (piece ∷ []) (pieces_behind sign behind)
    ∙ ap (λ (p : List ℕ). list ++ (p ∷ pieces_behind sign behind)) front
    ∙ ap (λ (b : Option (List ℕ)). list ++ (front_of sign rest ∷ pieces_behind sign b)) back
    ∙ ap (λ (ps : List (List ℕ)). list ++ ps) (sym (first_piece sign rest))
    ∙ so
