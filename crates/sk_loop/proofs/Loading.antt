-- Clauses that a solver is given one after another.
use Rattle.std.proofs.Common.{◌≡◌, ℕ, ◌+◌, ◌<◌, ◌++◌, List, [], ◌∷◌, length, get_or, take, sym, ◌∙◌, ap, arith}
use Rattle.std.proofs.lemmas.List.{append_assoc, take_more}
use Rattle.sk_clause.specs.declared.lit.Lit.{Lit}
use Rattle.sk_clause.specs.Problem.{Problem}
use Rattle.sk_sat.specs.Solver.{State}
use Rattle.sk_loop.specs.Session.{IsLoaded}

pub front_next : (cs : List (List Lit)) (i : ℕ) → i < length cs → take i cs ++ get_or cs i [] ∷ [] ≡ take (i + 1) cs
front_next cs i h = sym (take_more cs i [] h)

pub behind_next : (before cs : List (List Lit)) (i : ℕ) → i < length cs → (before ++ take i cs) ++ get_or cs i [] ∷ [] ≡ before ++ take (i + 1) cs
behind_next before cs i h = append_assoc before (take i cs) (get_or cs i [] ∷ []) ∙ ap (λ (x : List (List Lit)). before ++ x) (front_next cs i h)

pub ruleset loading = (front_next, behind_next)

pub starts_loaded : (s : State) (f : Problem) → s.vars ≡ 0 → s.added ≡ [] → IsLoaded s 0 f
starts_loaded s f v a = record { vars = omega arith; within = omega arith; added = a }
