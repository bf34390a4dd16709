-- What is told of inputs that explain why there is no completion.
use Rattle.std.specs.Prelude.{ℕ, ◌≡◌, ◌⊎◌, List, [], ◌∷◌, ◌++◌, Option, Some, None, map, take, length, codes}
use Rattle.sk_prog.specs.declared.prog.Prog.{Prog}
use Rattle.sk_model.specs.declared.expanded.Obligation.{Obligation}
use Rattle.sk_model.specs.declared.expanded.Site.{Site}
use Rattle.sk_model.specs.Obligations.{obligations}
use Rattle.sk_front.specs.declared.expansion.Expansion.{Expansion}
use Rattle.sk_explain_notes.specs.declared.note.Told.{Told}
use Rattle.sk_explain_notes.specs.Notes.{plain, one}
use Rattle.sk_explain_answers.specs.Fillings.{IsKnown}
use Rattle.sk_explain_answers.specs.Rows.{rows_of}
use Rattle.sk_explain_answers.specs.Calls.{call_of}
use Rattle.sk_explain_answers.specs.More.{more_text, most_told}

-- A call is told by a line that begins with it. Of what is none nothing is told.
abbrev pub IsTold : Option (List ℕ) → List ℕ → List ℕ → Type 0
IsTold None old new = new ≡ old
IsTold (Some call) old new = (done : List ℕ) × (new ≡ old ++ call ++ map plain done ++ 10 ∷ [])

-- each, one after another
abbrev pub AreTold : List (Option (List ℕ)) → List ℕ → List ℕ → Type 0
AreTold [] old new = new ≡ old
AreTold (c ∷ cs) old new = (mid : List ℕ) × IsTold c old mid × AreTold cs mid new

-- The inputs that lines tell are told for a program with these obligations, the first 20 of them, and how many more there are.
pub record TellsRows (prog : Prog) (os : List Obligation) (rows : List (List (List ℕ))) (old new : List ℕ) : Type 0 where
  pub mid : List ℕ
  pub told : AreTold (map (call_of prog os) (take most_told rows)) old mid
  pub more : new ≡ mid ++ more_text (length rows)

-- the title, by the open parts of the program
abbrev pub inputs_title : List Site → List ℕ
inputs_title [] = codes "the program does not pass this input:"
inputs_title (site ∷ sites) = codes "no filling passes all of these inputs; with each open part 0:"

-- The text has an expansion, for whose program the inputs of the answer are told.
pub record TellsAnswer (text answer : List ℕ) (old new : Told) : Type 0 where
  pub x : Expansion
  pub known : IsKnown text x
  pub title : new.title.bytes.items ≡ old.title.bytes.items ++ one (inputs_title x.expanded.sites)
  pub rows : TellsRows x.expanded.prog (obligations x.expanded.prog) (rows_of (codes "input") answer) old.notes.bytes.items new.notes.bytes.items

-- nothing is told of a text without an expansion
abbrev pub TellsInputs : List ℕ → List ℕ → Told → Told → Type 0
TellsInputs text answer old new = (new ≡ old) ⊎ TellsAnswer text answer old new
