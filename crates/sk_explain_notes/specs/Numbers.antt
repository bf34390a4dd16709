-- Numbers as words spell them, and words that hold signs between parts.
use Rattle.std.specs.Prelude.{ℕ, ◌+◌, ◌-◌, ◌*◌, ◌==◌, nat_le, Bool, ◌&&◌, List, [], ◌∷◌, length, Option, Some, None, if◌then◌else◌}
use Rattle.std.specs.List.{list_all}

abbrev pub is_digit : ℕ → Bool
is_digit b = nat_le 48 b && nat_le b 57

-- the number of these digits behind n
abbrev pub number_from : ℕ → List ℕ → ℕ
number_from n [] = n
number_from n (b ∷ bs) = number_from (10 * n + (b - 48)) bs

-- 1 to 10 digits
abbrev pub is_number : List ℕ → Bool
is_number word = nat_le 1 (length word) && (nat_le (length word) 10 && list_all is_digit word)

-- the number that a word spells
abbrev pub number_of : List ℕ → Option ℕ
number_of word = if is_number word then Some (number_from 0 word) else None

abbrev pub longer_first : ℕ → List (List ℕ) → List (List ℕ)
longer_first b [] = (b ∷ []) ∷ []
longer_first b (w ∷ ws) = (b ∷ w) ∷ ws

-- what stands between commas
abbrev pub between_commas : List ℕ → List (List ℕ)
between_commas [] = [] ∷ []
between_commas (b ∷ bs) = if b == 44 then [] ∷ between_commas bs else longer_first b (between_commas bs)

-- numbers with commas between them
abbrev pub are_numbers : List ℕ → Bool
are_numbers word = list_all is_number (between_commas word)

-- what stands before the first of a sign, and what behind it, where it stands at all
abbrev pub front_of : ℕ → List ℕ → List ℕ
front_of sign [] = []
front_of sign (b ∷ bs) = if b == sign then [] else b ∷ front_of sign bs

abbrev pub back_of : ℕ → List ℕ → Option (List ℕ)
back_of sign [] = None
back_of sign (b ∷ bs) = if b == sign then Some bs else back_of sign bs
