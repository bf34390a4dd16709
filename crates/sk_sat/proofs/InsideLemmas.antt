-- Whether one clause includes another, and which known one.
use Rattle.std.proofs.Common.{◌≡◌, ◌≢◌, ◌⊎◌, inl, inr, ℕ, ◌+◌, ◌<◌, ◌≤◌, List, [], ◌∷◌, length, get_or, take, sym, subst}
use Rattle.std.specs.Prelude.{Contains}
use Rattle.std.proofs.lemmas.List.{take_all, take_more}
use Rattle.std.proofs.lemmas.List.Elements.{Contains-get_or, Contains-push_cases}
use Rattle.sk_clause.specs.declared.lit.Lit.{Lit}
use Rattle.sk_clause.specs.Meaning.{Includes}
use Rattle.sk_clause.proofs.MeaningLemmas.{Contains-none}
use Rattle.sk_sat.specs.Round.{IsUnlike, IsInside}

pub more_cases : {X : Type 0} (c : List X) (i : ℕ) (d m : X) → i < length c → Contains (take (i + 1) c) m → Contains (take i c) m ⊎ (get_or c i d ≡ m)
more_cases c i d m l h = Contains-push_cases (take i c) (get_or c i d) m (subst (λ y. Contains y m) (take_more c i d l) h)

-- the literal is not one of these
pub record IsNotIn (c : List Lit) (l : Lit) : Type 0 where
  pub apart : (m : Lit) → Contains c m → m ≢ l

pub not_in_begins : (c : List Lit) (l : Lit) → IsNotIn (take 0 c) l
not_in_begins c l = record { apart = λ m h. absurd (Contains-none m h) }

pub not_in_more : (c : List Lit) (i : ℕ) (d l : Lit) → i < length c → IsNotIn (take i c) l → get_or c i d ≢ l → IsNotIn (take (i + 1) c) l
not_in_more c i d l w h n = record { apart = λ m k. elim (more_cases c i d m w k) [ inl before ↦ h.apart m before | inr same ↦ λ e. n (Rattle.std.proofs.Common.◌∙◌ same e) ] }

pub not_in_ends : (c : List Lit) (i : ℕ) (l : Lit) → length c ≤ i → IsNotIn (take i c) l → Contains c l → ⊥
not_in_ends c i l w h k = h.apart l (subst (λ x. Contains x l) (sym (take_all i c w)) k) Rattle.std.proofs.Common.refl

pub is_in : (c : List Lit) (i : ℕ) (d l : Lit) → i < length c → get_or c i d ≡ l → Contains c l
is_in c i d l w e = subst (Contains c) e (Contains-get_or c i d w)

pub ruleset holders = (not_in_begins, not_in_more, not_in_ends, is_in)

-- each of these literals is one of the clause
pub record IsPart (c part : List Lit) : Type 0 where
  pub each : (m : Lit) → Contains part m → Contains c m

pub part_begins : (c d : List Lit) → IsPart c (take 0 d)
part_begins c d = record { each = λ m h. absurd (Contains-none m h) }

pub part_more : (c d : List Lit) (i : ℕ) (e : Lit) → i < length d → IsPart c (take i d) → Contains c (get_or d i e) → IsPart c (take (i + 1) d)
part_more c d i e w h k = record { each = λ m j. elim (more_cases d i e m w j) [ inl before ↦ h.each m before | inr same ↦ subst (Contains c) same k ] }

pub part_ends : (c d : List Lit) (i : ℕ) → length d ≤ i → IsPart c (take i d) → Includes c d
part_ends c d i w h = λ m k. h.each m (subst (λ x. Contains x m) (sym (take_all i d w)) k)

pub part_fails : (c d : List Lit) (i : ℕ) (e : Lit) → i < length d → Includes c d → Contains c (get_or d i e)
part_fails c d i e w h = h (get_or d i e) (Contains-get_or d i e w)

pub ruleset includers = (part_begins, part_more, part_ends, part_fails)

pub unlike_begins : (known : List (List Lit)) (c : List Lit) → IsUnlike (take 0 known) c
unlike_begins known c = record { apart = λ d h. absurd (Contains-none d h) }

pub unlike_more : (known : List (List Lit)) (c : List Lit) (i : ℕ) → i < length known → IsUnlike (take i known) c → (Includes c (get_or known i []) → ⊥) → IsUnlike (take (i + 1) known) c
unlike_more known c i w h n = record { apart = λ d k. elim (more_cases known i [] d w k) [ inl before ↦ h.apart d before | inr same ↦ λ j. n (subst (Includes c) (sym same) j) ] }

pub unlike_ends : (known : List (List Lit)) (c : List Lit) (i : ℕ) → length known ≤ i → IsUnlike (take i known) c → IsUnlike known c
unlike_ends known c i w h = subst (λ x. IsUnlike x c) (take_all i known w) h

pub is_inside : (known : List (List Lit)) (c : List Lit) (j : ℕ) → j < length known → Includes c (get_or known j []) → IsInside known c j
is_inside known c j w h = record { there = w; each = h }

pub ruleset finders = (unlike_begins, unlike_more, unlike_ends, is_inside)
