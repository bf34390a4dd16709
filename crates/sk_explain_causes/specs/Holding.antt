-- Under which bounds a completion holds.
use Rattle.std.specs.Prelude.{ℕ, List, ◌++◌, ◌-◌, ◌^◌, decimal, codes}
use Rattle.sk_base.specs.declared.bounds.Bounds.{Bounds}
use Rattle.sk_explain_notes.specs.Notes.{one, one_line}

-- words with a number behind them
abbrev pub counted : List ℕ → ℕ → List ℕ
counted words n = one words ++ decimal n

-- the greatest input, the turns of loops, the active calls of one function and the bits of an int, each behind its words, and the end of
-- the line
abbrev pub bounds_between : List ℕ → List ℕ → List ℕ → List ℕ → List ℕ → Bounds → List ℕ
bounds_between inputs turns calls bits last bounds =
    (counted inputs (2 ^ bounds.inbits - 1) ++ counted turns bounds.unroll)
    ++ ((counted calls bounds.inline_amnt ++ counted bits bounds.int_bits) ++ one_line last)

-- the line that tells the bounds
abbrev pub bounds_text : Bounds → List ℕ
bounds_text bounds =
    bounds_between (codes "it holds for inputs 0 to ") (codes ", loops to ") (codes " turns, calls to ") (codes " deep, int of ") (codes " bits") bounds
