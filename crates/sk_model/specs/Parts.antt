-- What a part of a program says under a choice, by one layer. A part knows how many sites it has, and
-- what it says where its first site has a given place among the sites of the whole; so nothing is passed
-- along but a place.
use Rattle.std.specs.Prelude.{ℕ, zero, suc, ◌+◌, List, [], ◌∷◌, ◌++◌, Bool, true, false, slice_index_or}

pub record Part (A : Type 0) : Type 0 where
  pub count : ℕ
  pub at : ℕ → A

abbrev pub counts : {A : Type 0} → List (Part A) → ℕ
counts [] = 0
counts (p ∷ ps) = p.count + counts ps

-- one after another
abbrev pub in_turn : {A : Type 0} → List (Part A) → ℕ → List A
in_turn [] i = []
in_turn (p ∷ ps) i = p.at i ∷ in_turn ps (i + p.count)

-- the one with number v, where there is one
abbrev pub pick : {A : Type 0} → A → List (Part A) → ℕ → ℕ → A
pick other [] v i = other
pick other (p ∷ ps) zero i = p.at i
pick other (p ∷ ps) (suc v) i = pick other ps v (i + p.count)

-- the value of the site with this place
abbrev pub value : List ℕ → ℕ → ℕ
value values i = slice_index_or values i 0

abbrev pub joined : {A : Type 0} → List (List A) → List A
joined [] = []
joined (xs ∷ xss) = xs ++ joined xss

abbrev pub one_if : Bool → ℕ
one_if true = 1
one_if false = 0

-- how many of the first n are true: the new number of the function with number n where those that are
-- false are left out
abbrev pub rank : List Bool → ℕ → ℕ
rank [] n = 0
rank (b ∷ bs) zero = 0
rank (b ∷ bs) (suc n) = one_if b + rank bs n

abbrev pub total : List ℕ → ℕ
total [] = 0
total (n ∷ ns) = n + total ns
