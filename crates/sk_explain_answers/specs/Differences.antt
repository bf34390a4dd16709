-- In which numbers listed completions differ.
use Rattle.std.specs.Prelude.{ℕ, zero, suc, ◌≡◌, ◌⊎◌, ◌-◌, nat_lt, Bool, List, [], ◌∷◌, ◌++◌, Option, Some, None, map, take, length, slice_get, decimal, codes, if◌then◌else◌}
use Rattle.std.specs.List.{flat_map, list_any}
use Rattle.std.specs.Str.{bytes_eq}
use Rattle.sk_front.specs.declared.expansion.Expansion.{Expansion}
use Rattle.sk_explain_notes.specs.declared.note.Told.{Told}
use Rattle.sk_explain_notes.specs.Notes.{plain, said, one}
use Rattle.sk_explain_answers.specs.Rows.{rows_of}
use Rattle.sk_explain_answers.specs.Fillings.{IsKnown}
use Rattle.sk_explain_answers.specs.More.{more_text, most_told, rest_text}

-- one of some words is this one
abbrev pub has : List (List ℕ) → List ℕ → Bool
has words word = list_any (λ it. bytes_eq it word) words

-- words with one more, where that is none of them
abbrev pub with_value : List (List ℕ) → Option (List ℕ) → List (List ℕ)
with_value found None = found
with_value found (Some word) = if has found word then found else found ++ word ∷ []

abbrev pub values_from : List (List ℕ) → ℕ → List (List (List ℕ)) → List (List ℕ)
values_from found site [] = found
values_from found site (row ∷ rows) = values_from (with_value found (slice_get row site)) site rows

-- the words that rows have for a site, each once, in the order of the rows
abbrev pub values_of : ℕ → List (List (List ℕ)) → List (List ℕ)
values_of site rows = values_from [] site rows

-- a number, where there are two values or more
abbrev pub number_if : ℕ → ℕ → List ℕ
number_if number values = if nat_lt values 2 then [] else number ∷ []

-- the numbers, from 1, of the sites in which rows differ, of so many sites
abbrev pub differing : List (List (List ℕ)) → ℕ → List ℕ
differing rows zero = []
differing rows (suc site) = differing rows site ++ number_if (suc site) (length (values_of site rows))

abbrev pub behind_comma : List ℕ → List ℕ
behind_comma word = said (codes ", " ∷ word ∷ [])

-- words with commas between them
abbrev pub values_text : List (List ℕ) → List ℕ
values_text [] = []
values_text (word ∷ words) = one word ++ flat_map behind_comma words

-- the first 20 of them, and how many more there are
abbrev pub told_values : List (List ℕ) → List ℕ
told_values values = values_text (take most_told values) ++ rest_text (length values)

-- the line of a site, by its number, what is shown of it and its values
abbrev pub site_line : ℕ → List ℕ → List (List ℕ) → List ℕ
site_line number part values = map plain (codes "number ") ++ decimal number ++ said (codes ", " ∷ part ∷ codes ": " ∷ []) ++ told_values values ++ 10 ∷ []

-- A site with these values is told by its line.
abbrev pub IsSiteTold : ℕ → List (List ℕ) → List ℕ → List ℕ → Type 0
IsSiteTold number values old new = (part : List ℕ) × (new ≡ old ++ site_line number part values)

-- the sites with these numbers, one after another, with the values that rows have for them
abbrev pub AreSitesTold : List (List (List ℕ)) → List ℕ → List ℕ → List ℕ → Type 0
AreSitesTold rows [] old new = new ≡ old
AreSitesTold rows (n ∷ ns) old new = (mid : List ℕ) × IsSiteTold n (values_of (n - 1) rows) old mid × AreSitesTold rows ns mid new

-- Of so many sites those are told in which rows differ, the first 20 of them, and how many more there are.
pub record TellsSites (sites : ℕ) (rows : List (List (List ℕ))) (old new : List ℕ) : Type 0 where
  pub mid : List ℕ
  pub told : AreSitesTold rows (take most_told (differing rows sites)) old mid
  pub more : new ≡ mid ++ more_text (length (differing rows sites))

-- The text has an expansion, in whose sites rows differ.
pub record TellsAnswer (text : List ℕ) (rows : List (List (List ℕ))) (old new : Told) : Type 0 where
  pub x : Expansion
  pub known : IsKnown text x
  pub title : new.title.bytes.items ≡ old.title.bytes.items ++ one (codes "the listed completions differ in these numbers of //@ holes:")
  pub sites : TellsSites (length x.expanded.sites) rows old.notes.bytes.items new.notes.bytes.items

-- nothing is told of less than two rows, nor of a text without an expansion
abbrev pub TellsList : List ℕ → List (List (List ℕ)) → Told → Told → Type 0
TellsList text rows old new = (new ≡ old) ⊎ TellsAnswer text rows old new

-- of those of an answer
abbrev pub TellsDifferences : List ℕ → List ℕ → Told → Told → Type 0
TellsDifferences text answer old new = TellsList text (rows_of (codes "holes") answer) old new
