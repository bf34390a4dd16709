-- How the trail changes.
use Rattle.std.proofs.Common.{◌≡◌, inl, inr, Bool, ℕ, zero, suc, ◌+◌, ◌<◌, ◌≤◌, ◌++◌, List, [], ◌∷◌, length, set, take, replicate, refl, sym, ◌∙◌, ap, arith, subst, Option, Some, None}
use Rattle.std.specs.Prelude.{Contains}
use Rattle.std.proofs.lemmas.List.{take_at, length_push, length-set, length-replicate}
use Rattle.std.proofs.lemmas.List.Elements.{Contains-push_cases, Contains-push, Contains-append_left}
use Rattle.sk_clause.specs.declared.lit.Lit.{Lit}
use Rattle.sk_clause.specs.Values.{Holds, IsOpen, assigned, open_count}
use Rattle.sk_clause.proofs.ValueLemmas.{Holds-assigned_cases, length-assigned, open_count-assigned_one, Holds-cleared_same, none_holds}
use Rattle.sk_rup.specs.Steps.{Covers}

open_count-replicate : (n : ℕ) → open_count (replicate n None) ≡ n
open_count-replicate zero = refl
open_count-replicate (suc n) = omega (arith, open_count-replicate n)

pub covers_none : (vs : List (Option Bool)) (ls : List Lit) (n : ℕ) → vs ≡ replicate n None → ls ≡ [] → Covers vs ls
covers_none vs ls n e f = record {
  there = λ l h. absurd (none_holds n l (subst (λ x. Holds x l) e h));
  room = rw (e, f) (omega (arith, open_count-replicate n, length-replicate {A = Option Bool} n None));
}

pub long_none : (vs : List (Option Bool)) (n : ℕ) → vs ≡ replicate n None → length vs ≡ n
long_none vs n e = ap length e ∙ length-replicate {A = Option Bool} n None

pub ruleset begins = (covers_none, long_none)

pub covers_force : (vs : List (Option Bool)) (ls : List Lit) (l : Lit) → Covers vs ls → IsOpen vs l → l.var < length vs → Covers (assigned vs l) (ls ++ l ∷ [])
covers_force vs ls l c o w = record {
  there = λ m h. elim (Holds-assigned_cases vs l m w h) [
    | inl same ↦ subst (Contains (ls ++ l ∷ [])) (sym same) (Contains-push ls l)
    | inr before ↦ Contains-append_left ls (l ∷ []) m (c.there m before)
  ];
  room = omega (arith, c.room, length_push ls l, open_count-assigned_one vs l w o, length-assigned vs l);
}

pub ruleset forces = (covers_force)

open_count-cleared_most : (vs : List (Option Bool)) (i : ℕ) → open_count (set vs i None) ≤ open_count vs + 1
open_count-cleared_most [] i = omega arith
open_count-cleared_most (None ∷ vs) zero = omega arith
open_count-cleared_most (Some b ∷ vs) zero = omega arith
open_count-cleared_most (None ∷ vs) (suc i) = omega (arith, open_count-cleared_most vs i)
open_count-cleared_most (Some b ∷ vs) (suc i) = open_count-cleared_most vs i

pub covers_pop : (vs : List (Option Bool)) (all ls : List Lit) (l : Lit) → all ≡ ls ++ l ∷ [] → l.var < length vs → Covers vs all → Covers (set vs l.var None) ls
covers_pop vs all ls l e w c = record {
  there = λ m h. (let k = Holds-cleared_same vs l.var m w h in
      elim (Contains-push_cases ls l m (subst (λ x. Contains x m) e (c.there m k.1))) [
        | inl there ↦ there
        | inr same ↦ absurd (k.0 (ap (λ (x : Lit). x.var) (sym same)))
      ]);
  room = omega (arith, c.room, ap length e, length_push ls l, open_count-cleared_most vs l.var, length-set vs l.var None);
}

-- a literal of no variable here is not true
pub covers_pop_past : (vs : List (Option Bool)) (all ls : List Lit) (l : Lit) → all ≡ ls ++ l ∷ [] → length vs ≤ l.var → Covers vs all → Covers vs ls
covers_pop_past vs all ls l e w c = record {
  there = λ m h. elim (Contains-push_cases ls l m (subst (λ x. Contains x m) e (c.there m h))) [
    | inl there ↦ there
    | inr same ↦ absurd (omega (arith, Rattle.sk_clause.proofs.ValueLemmas.Holds-within vs m h, ap (λ (x : Lit). x.var) same))
  ];
  room = omega (arith, c.room, ap length e, length_push ls l);
}

pub front_pop : (all now before : List Lit) (l : Lit) → now ≡ take (length now) all → now ≡ before ++ l ∷ [] → before ≡ take (length before) all
front_pop all now before l h e =
    sym (take_at before (l ∷ []) (length before) refl) ∙ ap (take (length before)) (sym e ∙ h) ∙ Rattle.std.proofs.lemmas.List.take-take (length before) (length now) all (omega (arith, ap length e, length_push before l))

pub ruleset clears = (covers_pop, covers_pop_past, front_pop)

pub ruleset undoes = (covers_none)
