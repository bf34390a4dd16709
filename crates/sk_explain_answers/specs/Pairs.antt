-- What is told of inputs that no values of the open parts pass together.
use Rattle.std.specs.Prelude.{ℕ, ◌≡◌, ◌⊎◌, List, [], ◌∷◌, ◌++◌, Option, Some, None, map, take, length, slice_get, codes}
use Rattle.std.specs.Option.{option_and_then, option_map}
use Rattle.sk_app_texts.specs.ValueTexts.{value_text}
use Rattle.sk_prog.specs.declared.prog.Prog.{Prog}
use Rattle.sk_model.specs.declared.expanded.Obligation.{Obligation}
use Rattle.sk_model.specs.declared.expanded.Input.{Input}
use Rattle.sk_model.specs.declared.expanded.Pair.{Pair}
use Rattle.sk_model.specs.declared.expanded.Site.{Site}
use Rattle.sk_model.specs.Obligations.{obligations}
use Rattle.sk_front.specs.declared.expansion.Expansion.{Expansion}
use Rattle.sk_explain_notes.specs.Notes.{one_line}
use Rattle.sk_explain_answers.specs.Fillings.{IsKnown}
use Rattle.sk_explain_answers.specs.Calls.{call_text, taker}
use Rattle.sk_explain_answers.specs.Inputs.{AreTold}
use Rattle.sk_explain_answers.specs.More.{more_text, most_told}

-- the call of an input of an obligation
abbrev pub call_for : Prog → Input → Obligation → Option (List ℕ)
call_for prog input o = option_map (λ fun. call_text fun (map value_text input.args)) (taker prog o)

-- the call of the input of a pair
abbrev pub call_at : Prog → List Obligation → Pair → Option (List ℕ)
call_at prog os pair = option_and_then (call_for prog pair.input) (slice_get os pair.input.obligation)

-- The inputs of pairs are told for a program with these obligations, the first 20 of them, and how many more there are.
pub record TellsListed (prog : Prog) (os : List Obligation) (pairs : List Pair) (old new : List ℕ) : Type 0 where
  pub mid : List ℕ
  pub told : AreTold (map (call_at prog os) (take most_told pairs)) old mid
  pub more : new ≡ mid ++ more_text (length pairs)

-- the line in front of them, by the open parts of the program
abbrev pub pairs_title : List Site → List ℕ
pairs_title [] = codes "the program does not pass this input:"
pairs_title (site ∷ sites) = codes "no values pass all of these inputs; with the values that each was found for:"

-- The text has an expansion, for whose program the inputs are told.
pub record TellsKnown (text : List ℕ) (pairs : List Pair) (old new : List ℕ) : Type 0 where
  pub x : Expansion
  pub known : IsKnown text x
  pub told : TellsListed x.expanded.prog (obligations x.expanded.prog) pairs (old ++ one_line (pairs_title x.expanded.sites)) new

-- nothing is told where there are none, nor of a text without an expansion
abbrev pub TellsPairs : List ℕ → List Pair → List ℕ → List ℕ → Type 0
TellsPairs text pairs old new = (new ≡ old) ⊎ TellsKnown text pairs old new
