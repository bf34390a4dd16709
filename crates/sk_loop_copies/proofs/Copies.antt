-- One clause more of a list.
use Rattle.std.proofs.Common.{◌≡◌, ℕ, ◌+◌, ◌<◌, ◌≤◌, ◌++◌, List, [], ◌∷◌, length, get_or, take, sym, ap, ◌∙◌}
use Rattle.sk_clause.specs.declared.lit.Lit.{Lit}
use Rattle.sk_clause.specs.Problem.{Problem}

pub front_next : (b : List (List Lit)) (k : ℕ) → k < length b → take k b ++ get_or b k [] ∷ [] ≡ take (k + 1) b
front_next b k h = sym (Rattle.std.proofs.lemmas.List.take_more b k [] h)

-- one clause more is copied
pub copied_next : (whole copy longer : Problem) (i : ℕ) → i < length whole.clauses → copy ≡ record { vars = whole.vars; clauses = take i whole.clauses } → longer ≡ record copy { clauses = copy.clauses ++ get_or whole.clauses i [] ∷ [] } → longer ≡ record { vars = whole.vars; clauses = take (i + 1) whole.clauses }
copied_next whole copy longer i h so far =
    far ∙ ap (λ (p : Problem). record p { clauses = p.clauses ++ get_or whole.clauses i [] ∷ [] }) so
    ∙ ap (λ (cs : List (List Lit)). record { vars = whole.vars; clauses = cs }) (front_next whole.clauses i h)

pub copied_all : (whole copy : Problem) (i : ℕ) → length whole.clauses ≤ i → copy ≡ record { vars = whole.vars; clauses = take i whole.clauses } → copy ≡ whole
copied_all whole copy i h so = so ∙ ap (λ (cs : List (List Lit)). record { vars = whole.vars; clauses = cs }) (Rattle.std.proofs.lemmas.List.take_all i whole.clauses h)

pub ruleset fronts = (copied_next, copied_all)
