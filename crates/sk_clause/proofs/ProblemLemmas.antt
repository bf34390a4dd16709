-- Lemmas on clauses over a number of variables.
use Rattle.std.proofs.Common.{ℕ, ◌+◌, ◌<◌, ◌++◌, List, [], ◌∷◌, length, get_or, arith}
use Rattle.std.proofs.lemmas.List.Elements.{All-nil, All-weaker, All-push}
use Rattle.sk_clause.specs.declared.lit.Lit.{Lit}
use Rattle.sk_clause.specs.Problem.{IsWithin, AreWithin}

pub AreWithin-nil : (vars : ℕ) → AreWithin vars []
AreWithin-nil vars = All-nil (IsWithin vars)

pub AreWithin-more : (vars : ℕ) (cs : List (List Lit)) → AreWithin vars cs → AreWithin (vars + 1) cs
AreWithin-more vars cs h = All-weaker (IsWithin vars) (IsWithin (vars + 1)) (λ c w. All-weaker (λ l. l.var < vars) (λ l. l.var < vars + 1) (λ l k. omega arith) c w) cs h

pub AreWithin-push : (vars : ℕ) (cs : List (List Lit)) (c : List Lit) → AreWithin vars cs → IsWithin vars c → AreWithin vars (cs ++ c ∷ [])
AreWithin-push vars cs c h k = All-push (IsWithin vars) cs c h k

pub AreWithin-get : (vars : ℕ) (cs : List (List Lit)) (i : ℕ) → i < length cs → AreWithin vars cs → IsWithin vars (get_or cs i [])
AreWithin-get vars cs i l h = h i [] l

pub ruleset problem = (AreWithin-nil, AreWithin-more, AreWithin-push, AreWithin-get)
