-- Lists of inputs that are copied one after another.
use Rattle.std.proofs.Common.{◌≡◌, ℕ, ◌+◌, ◌<◌, ◌++◌, List, [], ◌∷◌, length, get_or, take, sym, ap, ◌∙◌, append_assoc}
use Rattle.std.proofs.lemmas.List.{take_more}
use Rattle.sk_model.specs.declared.expanded.Input.{Input}
use Rattle.sk_loop.proofs.Growing.{inputs_next}

-- one more copy
pub copied_next : (old more made longer : List Input) (i : ℕ) (d input : Input) → i < length more → input ≡ get_or more i d → made ≡ old ++ take i more → longer ≡ made ++ input ∷ [] → longer ≡ old ++ take (i + 1) more
copied_next old more made longer i d input below is so far =
    far ∙ ap (λ xs. xs ++ input ∷ []) so
    ∙ append_assoc old (take i more) (input ∷ [])
    ∙ ap (λ x. old ++ (take i more ++ x ∷ [])) is
    ∙ ap (λ xs. old ++ xs) (sym (take_more more i d below))

pub ruleset copies = (copied_next)

pub ruleset inputs = (inputs_next)
