-- Rows behind others.
use Rattle.std.proofs.Common.{◌≡◌, List, [], ◌∷◌, ◌++◌, map, ap, ◌∙◌}
use Rattle.std.proofs.lemmas.List.{map-append}
use Rattle.sk_explain_answers.specs.Rows.{words_of}
use Rattle.sk_explain_answers.specs.declared.rows.Row.{Row}

pub row_pushed : (rows longer : List Row) (row : Row) → longer ≡ rows ++ row ∷ [] → map words_of longer ≡ map words_of rows ++ words_of row ∷ []
row_pushed rows longer row is = ap (map words_of) is ∙ map-append words_of rows (row ∷ [])
