-- The new numbers of functions as a table.
use Rattle.std.specs.Prelude.{ℕ, List, slice_index_or}
use Rattle.sk_prune.specs.declared.renamer.Renamer.{Renamer}

-- the new number of the function with number n; one that is not in the table has the last
abbrev pub numbered : List ℕ → ℕ → ℕ → ℕ
numbered table last n = slice_index_or table n last

abbrev pub number : Renamer → ℕ → ℕ
number r = numbered r.table.now r.last
