-- The lines that tell people of a search.
use Rattle.std.specs.Prelude.{ℕ, ◌/◌, ◌%◌, List, [], ◌∷◌, ◌++◌, map, take, decimal, codes, Option, Some, None}
use Rattle.std.specs.List.{flat_map}
use Rattle.sk_explain_notes.specs.Notes.{plain}
use Rattle.sk_explain_search.specs.declared.statistics.Statistics.{Statistics}
use Rattle.sk_explain_search.specs.declared.times.Times.{Times}

-- a word of these lines
abbrev pub word : List ℕ → List ℕ
word bytes = map plain bytes

-- a number, and a word behind it
unfoldable pub counted_text : ℕ → List ℕ → List ℕ
counted_text count behind = decimal count ++ word behind

-- the value of the last completion, where one was found with a value
abbrev pub best_text : Option ℕ → List ℕ
best_text None = []
best_text (Some value) = word (codes "best value ") ++ counted_text value (codes ", ")

-- two of them
abbrev pub both_text : ℕ → List ℕ → ℕ → List ℕ → List ℕ
both_text first after second behind = counted_text first after ++ counted_text second behind

-- The line that shows that a search goes on, after so many seconds, and how much of it is written

abbrev pub progress_text : Statistics → ℕ → List ℕ
progress_text s seconds =
    both_text s.rounds (codes " rounds, ") s.inputs (codes " inputs, ")
    ++ both_text s.conflicts (codes " conflicts, ") s.formula.clauses (codes " clauses, ")
    ++ best_text s.best
    ++ counted_text seconds (codes " s")

abbrev pub width : ℕ
width = 79

-- What a terminal gets for it: back to the beginning of its line, with no new line at its right end; the line; what stands behind it
-- erased, and new lines again.
abbrev pub shown_text : Statistics → ℕ → List ℕ
shown_text s seconds = 13 ∷ 27 ∷ codes "[?7l" ++ take width (progress_text s seconds) ++ 27 ∷ codes "[K" ++ 27 ∷ codes "[?7h"

-- A completion that was found with a value

abbrev pub behind_blank : ℕ → List ℕ
behind_blank hole = word (codes " ") ++ decimal hole

abbrev pub better_text : ℕ → List ℕ → List ℕ
better_text value holes = word (codes "best so far: value ") ++ counted_text value (codes ", holes") ++ flat_map behind_blank holes ++ 10 ∷ []

-- The lines at the end

abbrev pub number_line : List ℕ → ℕ → List ℕ
number_line name number = word name ++ word (codes ": ") ++ decimal number ++ 10 ∷ []

abbrev pub finding_lines : Statistics → List ℕ
finding_lines s = number_line (codes "rounds") s.rounds ++ number_line (codes "inputs") s.inputs

abbrev pub count_lines : Statistics → List ℕ
count_lines s =
    number_line (codes "nodes") s.nodes
    ++ number_line (codes "variables") s.largest.variables
    ++ number_line (codes "clauses") s.largest.clauses
    ++ number_line (codes "conflicts") s.conflicts
    ++ number_line (codes "restarts") s.restarts

-- milliseconds as seconds
abbrev pub seconds_text : ℕ → List ℕ
seconds_text time = decimal (time / 1000) ++ word (codes ".") ++ decimal (time / 100 % 10) ++ decimal (time / 10 % 10) ++ decimal (time % 10)

unfoldable pub seconds_line : List ℕ → ℕ → List ℕ
seconds_line name time = word (codes "seconds ") ++ word name ++ word (codes ": ") ++ seconds_text time ++ 10 ∷ []

abbrev pub time_lines : Times → List ℕ
time_lines t =
    seconds_line (codes "before the search") t.before
    ++ seconds_line (codes "of looking for choices") t.proposing
    ++ seconds_line (codes "of looking for inputs") t.countering
    ++ seconds_line (codes "of proofs") t.proving
    ++ seconds_line (codes "in all") t.at
