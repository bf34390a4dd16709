-- Inputs as calls: the function of an obligation, with the values of its parameters.
use Rattle.std.specs.Prelude.{ℕ, ◌+◌, List, [], ◌∷◌, ◌++◌, Option, Some, None, map, decimal, codes, slice_get, if◌then◌else◌}
use Rattle.std.specs.Option.{option_and_then, option_map}
use Rattle.std.specs.Str.{bytes_eq}
use Rattle.sk_prog.specs.declared.prog.ParamDef.{ParamDef}
use Rattle.sk_prog.specs.declared.prog.Fun.{Fun}
use Rattle.sk_prog.specs.declared.prog.Prog.{Prog}
use Rattle.sk_model.specs.declared.expanded.Obligation.{Obligation}
use Rattle.sk_model.specs.Inputs.{fun_of}
use Rattle.sk_explain_notes.specs.Notes.{plain, said}

-- the name of a parameter with its value, behind what stands between two of them
abbrev pub param_text : List ℕ → ParamDef → List ℕ → List ℕ
param_text between p word = said (between ∷ p.name ∷ codes " = " ∷ word ∷ [])

-- those of parameters, as long as there are values
abbrev pub params_text : List ℕ → List ParamDef → List (List ℕ) → List ℕ
params_text between [] words = []
params_text between (p ∷ ps) [] = []
params_text between (p ∷ ps) (word ∷ words) = param_text between p word ++ params_text (codes ", ") ps words

-- NAME(PARAMETER = VALUE, ..)
abbrev pub call_text : Fun → List (List ℕ) → List ℕ
call_text fun words = said (fun.name ∷ codes "(" ∷ []) ++ params_text [] fun.params words ++ map plain (codes ")")

-- the obligation whose number a word spells, of obligations of which the first has this number
abbrev pub obligation_from : ℕ → List Obligation → List ℕ → Option Obligation
obligation_from n [] word = None
obligation_from n (o ∷ os) word = if bytes_eq word (decimal n) then Some o else obligation_from (n + 1) os word

-- the function of an obligation
abbrev pub taker : Prog → Obligation → Option Fun
taker prog o = slice_get prog.funs (fun_of o).index

-- the call of an input whose obligation has a number that a word spells
abbrev pub call_of : Prog → List Obligation → List (List ℕ) → Option (List ℕ)
call_of prog os [] = None
call_of prog os (word ∷ words) = option_and_then (λ o. option_map (λ fun. call_text fun words) (taker prog o)) (obligation_from 0 os word)
