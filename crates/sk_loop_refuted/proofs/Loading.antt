-- Clauses that stand one after another.
use Rattle.std.proofs.Common.{◌≡◌, ℕ, ◌+◌, ◌<◌, ◌++◌, List, [], ◌∷◌, length, get_or, take, sym, subst}
use Rattle.std.proofs.lemmas.List.{take_more}
use Rattle.std.proofs.lemmas.List.Elements.{All-push}
use Rattle.sk_clause.specs.declared.lit.Lit.{Lit}
use Rattle.sk_clause.specs.Problem.{IsWithin, AreWithin}

-- one more of the front
pub front_next : (cs : List (List Lit)) (i : ℕ) → i < length cs → take i cs ++ get_or cs i [] ∷ [] ≡ take (i + 1) cs
front_next cs i h = sym (take_more cs i [] h)

pub within_next : (vars : ℕ) (cs : List (List Lit)) (i : ℕ) → i < length cs → AreWithin vars (take i cs) → IsWithin vars (get_or cs i []) → AreWithin vars (take (i + 1) cs)
within_next vars cs i h so one = subst (AreWithin vars) (front_next cs i h) (All-push (IsWithin vars) (take i cs) (get_or cs i []) so one)

pub ruleset loading = (front_next, within_next)
