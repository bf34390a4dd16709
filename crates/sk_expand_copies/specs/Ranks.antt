-- The new numbers of functions where some are left out, as a table.
use Rattle.std.specs.Prelude.{ℕ, ◌+◌, List, [], ◌∷◌, Bool}
use Rattle.sk_model.specs.Parts.{one_if}

-- the new number of each function, of which those that are false are left out and the first has number k
abbrev pub ranks_from : ℕ → List Bool → List ℕ
ranks_from k [] = []
ranks_from k (b ∷ bs) = k ∷ ranks_from (k + one_if b) bs

-- how many are true
abbrev pub count_true : List Bool → ℕ
count_true [] = 0
count_true (b ∷ bs) = one_if b + count_true bs
