-- The inputs of pairs, one after another.
use Rattle.std.proofs.Common.{◌≡◌, ℕ, ◌+◌, ◌<◌, ◌++◌, List, [], ◌∷◌, length, get_or, take, sym, ◌∙◌, ap}
use Rattle.std.proofs.lemmas.List.{map-append, take_more}
use Rattle.sk_model.specs.declared.expanded.Input.{Input}
use Rattle.sk_model.specs.declared.expanded.Pair.{Pair}
use Rattle.sk_loop_laws.specs.Honest.{inputs_of}

pub inputs_next : (pairs : List Pair) (i : ℕ) (d : Pair) (made longer : List Input) (input : Input) → i < length pairs → input ≡ (get_or pairs i d).input → made ≡ inputs_of (take i pairs) → longer ≡ made ++ input ∷ [] → longer ≡ inputs_of (take (i + 1) pairs)
inputs_next pairs i d made longer input h is so far =
    far ∙ ap (λ (x : List Input). x ++ input ∷ []) so ∙ ap (λ (x : Input). inputs_of (take i pairs) ++ x ∷ []) is
    ∙ sym (ap inputs_of (take_more pairs i d h) ∙ map-append (λ (p : Pair). p.input) (take i pairs) (get_or pairs i d ∷ []))

pub ruleset input_steps = (inputs_next)
