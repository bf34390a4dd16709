-- Numbers between commas, one after another.
use Rattle.std.proofs.Common.{◌≡◌, ℕ, eqb, List, [], ◌∷◌, ◌++◌, Option, Some, None, refl, sym, ap, append_assoc}
use Rattle.std.specs.List.{slice_split, onto_first}
use Rattle.std.proofs.lemmas.List.{append-nil}
use Rattle.sk_opts.specs.SpeltValues.{between_commas, longer_first, both}

same_first : (b : ℕ) (words : List (List ℕ)) → onto_first b words ≡ longer_first b words
same_first b [] = refl
same_first b (w ∷ ws) = refl

-- the pieces are those of std
pub pieces_are : (word : List ℕ) → slice_split (λ b. eqb b 44) word ≡ between_commas word
pieces_are [] = refl
pieces_are (b ∷ bs) = let rest = pieces_are bs in rw rest (rw (same_first b (between_commas bs)) refl)

-- these in front of those that are found, if some are
abbrev pub behind : {A : Type 0} → List A → Option (List A) → Option (List A)
behind vs None = None
behind vs (Some ws) = Some (vs ++ ws)

pub behind_none : {A : Type 0} (found : Option (List A)) → found ≡ behind [] found
behind_none None = refl
behind_none (Some ws) = refl

pub behind_one : {A : Type 0} (vs : List A) (v : A) (found : Option (List A)) → behind vs (both (Some v) found) ≡ behind (vs ++ v ∷ []) found
behind_one vs v None = refl
behind_one vs v (Some ws) = ap Some (sym (append_assoc vs (v ∷ []) ws))

pub behind_all : {A : Type 0} (vs : List A) → behind vs (Some []) ≡ Some vs
behind_all vs = ap Some (append-nil vs)

pub ruleset steps = (behind_none, behind_one, behind_all)
