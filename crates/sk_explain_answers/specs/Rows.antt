-- The lines of an answer.
use Rattle.std.specs.Prelude.{ℕ, Bool, false, ◌&&◌, List, [], ◌∷◌, codes, if◌then◌else◌}
use Rattle.std.specs.List.{flat_map}
use Rattle.std.specs.Str.{bytes_eq}
use Rattle.sk_explain_answers.specs.Pieces.{pieces}
use Rattle.sk_explain_answers.specs.declared.rows.Row.{Row}

-- the words of a line begin with `//@` and this kind
abbrev pub is_row : List ℕ → List (List ℕ) → Bool
is_row kind [] = false
is_row kind (mark ∷ []) = false
is_row kind (mark ∷ word ∷ words) = bytes_eq mark (codes "//@") && bytes_eq word kind

-- the words behind these two
abbrev pub behind_kind : List (List ℕ) → List (List ℕ)
behind_kind [] = []
behind_kind (mark ∷ []) = []
behind_kind (mark ∷ word ∷ words) = words

abbrev pub words_of : Row → List (List ℕ)
words_of row = behind_kind row.words

-- those of a line, where it is of this kind
abbrev pub row_if : List ℕ → List (List ℕ) → List (List (List ℕ))
row_if kind words = if is_row kind words then behind_kind words ∷ [] else []

abbrev pub row_of : List ℕ → List ℕ → List (List (List ℕ))
row_of kind line = row_if kind (pieces 32 line)

-- those of each line of an answer that is of this kind
abbrev pub rows_of : List ℕ → List ℕ → List (List (List ℕ))
rows_of kind answer = flat_map (row_of kind) (pieces 10 answer)
