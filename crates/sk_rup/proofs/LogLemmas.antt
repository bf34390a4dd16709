-- The steps along a log.
use Rattle.std.proofs.Common.{◌≡◌, ℕ, ◌+◌, ◌<◌, ◌≤◌, ◌++◌, List, [], ◌∷◌, length, get_or, take, sym, ◌∙◌, ap, arith, subst, below_more}
use Rattle.std.proofs.lemmas.List.{append_assoc, take_more, take_all}
use Rattle.std.proofs.lemmas.List.Elements.{All-more, All-weaker, All-push}
use Rattle.sk_clause.specs.declared.lit.Lit.{Lit}
use Rattle.sk_clause.specs.Problem.{IsWithin, AreWithin}
use Rattle.sk_clause.specs.Meaning.{Follows}

IsWithin-more : (n m : ℕ) (c : List Lit) → n ≤ m → IsWithin n c → IsWithin m c
IsWithin-more n m c l h = All-weaker (λ x. x.var < n) (λ x. x.var < m) (λ x k. omega arith) c h

pub AreWithin-more : (n m : ℕ) (cs : List (List Lit)) → n ≤ m → AreWithin n cs → AreWithin m cs
AreWithin-more n m cs l h = All-weaker (IsWithin n) (IsWithin m) (λ c k. IsWithin-more n m c l k) cs h

pub AreWithin-step : (n m : ℕ) (cs : List (List Lit)) (i : ℕ) → i < length cs → n ≤ m → AreWithin n (take i cs) → IsWithin m (get_or cs i []) → AreWithin m (take (i + 1) cs)
AreWithin-step n m cs i l k h w = All-more (IsWithin m) cs i [] l (AreWithin-more n m (take i cs) k h) w

pub IsWithin-step : (n m : ℕ) (c : List Lit) (i : ℕ) (d : Lit) → i < length c → n ≤ m → IsWithin n (take i c) → (get_or c i d).var < m → IsWithin m (take (i + 1) c)
IsWithin-step n m c i d l k h w = All-more (λ x. x.var < m) c i d l (IsWithin-more n m (take i c) k h) w

pub IsWithin-all : (n i : ℕ) (c : List Lit) → length c ≤ i → IsWithin n (take i c) → IsWithin n c
IsWithin-all n i c l h = subst (IsWithin n) (take_all i c l) h

-- the log so far follows
abbrev pub FollowsSoFar : List (List Lit) → List (List Lit) → ℕ → Type 0
FollowsSoFar clauses log i = (k : ℕ) → k < i → Follows (clauses ++ take k log) (get_or log k [])

pub FollowsSoFar-step : (clauses log : List (List Lit)) (i : ℕ) → FollowsSoFar clauses log i → Follows (clauses ++ take i log) (get_or log i []) → FollowsSoFar clauses log (i + 1)
FollowsSoFar-step clauses log i h f = below_more _ _ h f

pub known_step : (clauses log : List (List Lit)) (i : ℕ) → i < length log → (clauses ++ take i log) ++ get_or log i [] ∷ [] ≡ clauses ++ take (i + 1) log
known_step clauses log i l = append_assoc clauses (take i log) (get_or log i [] ∷ []) ∙ ap (λ x. clauses ++ x) (sym (take_more log i [] l))

pub ruleset logs = (AreWithin-step, AreWithin-more, All-push, IsWithin-step, IsWithin-all, FollowsSoFar-step, known_step)
