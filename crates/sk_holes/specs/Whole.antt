-- The functions of a program filled, with what stands and the new numbers.
use Rattle.std.specs.Prelude.{ℕ, List, [], map}
use Rattle.sk_prog.specs.declared.prog.Fun.{Fun}
use Rattle.sk_model.specs.Parts.{rank}
use Rattle.sk_model.specs.Stands.{FunStanding, standing_from, funs_stand, all_paid}
use Rattle.sk_model.specs.Fill.{minimize_of, fill_funs}

-- the functions that stand as this says, filled
abbrev pub filled_with : List ℕ → List FunStanding → List Fun → List Fun
filled_with values ss fs = fill_funs values (rank (funs_stand ss)) (map minimize_of (all_paid ss)) (funs_stand ss) fs 0

-- the functions that stand under these values, filled, of which the first, so many, are ordinary
abbrev pub filled_by : List ℕ → ℕ → List Fun → List Fun
filled_by values ordinary fs = filled_with values (standing_from values ordinary [] 0 0 fs) fs
