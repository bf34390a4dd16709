-- How code finds the functions that stay: marks, and the functions that were marked, in order.
use Rattle.std.specs.Prelude.{ℕ, zero, suc, ◌+◌, Bool, true, false, List, [], ◌∷◌, ◌++◌, length, replicate, Option, Some, None, slice_get, slice_set, slice_index_or, if◌then◌else◌}
use Rattle.sk_prog.specs.declared.ids.FunId.{FunId}
use Rattle.sk_prog.specs.declared.prog.FunKind.{FunKind}
use Rattle.sk_prog.specs.declared.prog.FunKind.TheVariants as kind
use Rattle.sk_prog.specs.declared.prog.Fun.{Fun}
use Rattle.sk_prune.specs.Called.{called}

pub record Reached : Type 0 where
  pub marks : List Bool
  pub found : List ℕ

-- a function is marked, where it is there and is not
abbrev pub mark : Reached → ℕ → Reached
mark r f = if slice_index_or r.marks f true then r else record { marks = slice_set r.marks f true; found = r.found ++ f ∷ [] }

abbrev pub mark_all : Reached → List ℕ → Reached
mark_all r [] = r
mark_all r (f ∷ fs) = mark_all (mark r f) fs

abbrev pub of_kind : ℕ → FunKind → List ℕ
of_kind n kind.Harness = n ∷ []
of_kind n kind.Plain = []
of_kind n kind.Generator = []

abbrev pub of_implements : ℕ → Option FunId → List ℕ
of_implements n None = []
of_implements n (Some g) = n ∷ g.index ∷ []

-- the functions that stay whatever is called, for functions of which the first has this number
abbrev pub roots_from : ℕ → List Fun → List ℕ
roots_from n [] = []
roots_from n (f ∷ fs) = of_kind n f.kind ++ (of_implements n f.implements ++ roots_from (n + 1) fs)

abbrev pub called_in : Option Fun → List ℕ
called_in None = []
called_in (Some f) = called f.body

abbrev pub called_at : List Fun → Option ℕ → List ℕ
called_at funs None = []
called_at funs (Some n) = called_in (slice_get funs n)

-- what the function that was found as number i calls
abbrev pub visit : List Fun → Reached → ℕ → Reached
visit funs r i = mark_all r (called_at funs (slice_get r.found i))

-- so many visits, one after another
abbrev pub visits : List Fun → Reached → ℕ → ℕ → Reached
visits funs r i zero = r
visits funs r i (suc n) = visits funs (visit funs r i) (i + 1) n

abbrev pub first : List Fun → Reached
first funs = mark_all (record { marks = replicate (length funs) false; found = [] }) (roots_from 0 funs)
