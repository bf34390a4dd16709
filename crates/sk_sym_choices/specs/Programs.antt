-- What the minrepeats of a program pay under a choice, by what calls and pays in its bodies whatever is chosen.
use Rattle.std.specs.Prelude.{ℕ, ◌+◌, List, [], ◌∷◌, ◌++◌, Bool, ◌||◌, nat_lt, if◌then◌else◌}
use Rattle.sk_prog.specs.declared.prog.Fun.{Fun}
use Rattle.sk_model.specs.declared.expanded.Expanded.{Expanded}
use Rattle.sk_model.specs.Stands.{Payment, is_called}
use Rattle.sk_sym_choices.specs.Guards.{called_under, paid_under, Guards, body_guards}

-- a list, if it is kept
abbrev pub kept : {A : Type 0} → Bool → List A → List A
kept b xs = if b then xs else []

-- what calls and pays in a function
abbrev pub guards_of : Fun → Guards
guards_of f = body_guards f.body

-- Of functions of which the first has number n, and its first site place i, where what stands before them calls these:
-- what those pay that stand. An ordinary function stands, and each other where it is called.
abbrev pub paid_from : List ℕ → ℕ → List ℕ → ℕ → ℕ → List Fun → List Payment
paid_from values ordinary called n i [] = []
paid_from values ordinary called n i (f ∷ fs) =
    let stands = nat_lt n ordinary || is_called called n in
    let g = (guards_of f).at i [] in
    kept stands (paid_under values g.owed) ++ paid_from values ordinary (called ++ kept stands (called_under values g.called)) (n + 1) (i + (guards_of f).count) fs

-- what all minrepeats of a program pay
abbrev pub program_paid : Expanded → List ℕ → List Payment
program_paid e values = paid_from values e.ordinary [] 0 0 e.prog.funs
