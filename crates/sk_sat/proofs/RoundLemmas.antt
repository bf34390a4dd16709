-- The steps of a round.
use Rattle.std.proofs.Common.{◌≡◌, ◌≢◌, ◌⊎◌, inl, inr, Bool, ℕ, ◌+◌, ◌<◌, ◌≤◌, List, [], length, get_or, take, refl, sym, arith, subst, Option, Some, None, below_more}
use Rattle.std.specs.Prelude.{Contains}
use Rattle.std.proofs.lemmas.List.{take_all, take_more}
use Rattle.std.proofs.lemmas.List.Elements.{Contains-push_cases, All-contains, Contains-get_or}
use Rattle.sk_clause.specs.declared.lit.Lit.{Lit}
use Rattle.sk_clause.specs.Meaning.{negated}
use Rattle.sk_clause.specs.Problem.{IsWithin, AreWithin}
use Rattle.sk_clause.proofs.MeaningLemmas.{Contains-none}
use Rattle.sk_clause.specs.Values.{signed, Holds, Fails, IsOpen, IsSettled, LeavesOne}
use Rattle.sk_clause.proofs.ValueLemmas.{negated_holds, fails_from_negated, negated-negated, Holds-within, LeavesOne_var, not_fails_holds, same_var_holds}
use Rattle.sk_sat.specs.Analysis.{IsLesson}
use Rattle.sk_sat.specs.Round.{IsMet, IsFree}
use Rattle.sk_clause.specs.Meaning.{IsConsistent}
use Rattle.sk_sat.proofs.PropagateLemmas.{falsified_by}

signed_of_none : (n : Bool) (o : Option Bool) → o ≡ None → signed n o ≡ None
signed_of_none n None h = refl
signed_of_none n (Some b) h = cc

none_of_signed : (n : Bool) (o : Option Bool) → signed n o ≡ None → o ≡ None
none_of_signed n None h = refl
none_of_signed n (Some b) h = cc

pub vacant_at : (vs : List (Option Bool)) (i : ℕ) (n : Bool) → get_or vs i None ≡ None → IsOpen vs (record { var = i; neg = n })
vacant_at vs i n h = signed_of_none n (get_or vs i None) h

-- the first i variables have values
pub record FullBelow (vs : List (Option Bool)) (i : ℕ) : Type 0 where
  pub each : (v : ℕ) → v < i → get_or vs v None ≢ None

pub full_begins : (vs : List (Option Bool)) → FullBelow vs 0
full_begins vs = record { each = λ v h. absurd (omega arith) }

pub full_more : (vs : List (Option Bool)) (i : ℕ) → FullBelow vs i → get_or vs i None ≢ None → FullBelow vs (i + 1)
full_more vs i h n = record { each = below_more _ _ h.each n }

pub full_ends : (vs : List (Option Bool)) (i : ℕ) → FullBelow vs i → length vs ≤ i → (l : Lit) → l.var < length vs → IsOpen vs l → ⊥
full_ends vs i h e l w o = h.each l.var (omega arith) (none_of_signed l.neg (get_or vs l.var None) o)

pub free_at : (vs : List (Option Bool)) (i : ℕ) (n : Bool) → i < length vs → get_or vs i None ≡ None → IsFree vs (record { var = i; neg = n })
free_at vs i n h e = record { within = h; vacant = vacant_at vs i n e }

pub ruleset picks = (free_at, vacant_at, full_begins, full_more, full_ends)

settled_met : (vs : List (Option Bool)) (c : List Lit) → IsWithin (length vs) c → ((l : Lit) → l.var < length vs → IsOpen vs l → ⊥) → IsSettled vs c → (m : Lit) × Contains c m × Holds vs m
settled_met vs c w full (inl t) = t
settled_met vs c w full (inr t) = absurd (full t.0 (All-contains (λ l. l.var < length vs) c t.0 w t.2) t.5)

pub met_begins : (known : List (List Lit)) (vs : List (Option Bool)) → IsMet (take 0 known) vs
met_begins known vs = record { each = λ c h. absurd (Contains-none c h) }

pub met_more : (known : List (List Lit)) (vs : List (Option Bool)) (i : ℕ) → i < length known → AreWithin (length vs) known → ((l : Lit) → l.var < length vs → IsOpen vs l → ⊥) → IsMet (take i known) vs → IsSettled vs (get_or known i []) → IsMet (take (i + 1) known) vs
met_more known vs i l w full h s = record {
  each = λ c there. elim (Contains-push_cases (take i known) (get_or known i []) c (subst (λ x. Contains x c) (take_more known i [] l) there)) [
    | inl before ↦ h.each c before
    | inr same ↦ subst (λ c. (m : Lit) × Contains c m × Holds vs m) same (settled_met vs (get_or known i []) (w i [] l) full s)
  ];
}

pub met_ends : (known : List (List Lit)) (vs : List (Option Bool)) (i : ℕ) → length known ≤ i → IsMet (take i known) vs → IsMet known vs
met_ends known vs i l h = subst (λ x. IsMet x vs) (take_all i known l) h

pub no_unit : (known : List (List Lit)) (vs : List (Option Bool)) (i : ℕ) (l : Lit) → i < length known → AreWithin (length vs) known → ((l : Lit) → l.var < length vs → IsOpen vs l → ⊥) → LeavesOne vs (get_or known i []) l → ⊥
no_unit known vs i l h w full one = full l (LeavesOne_var vs (get_or known i []) l one (length vs) (w i [] h)) one.vacant

pub ruleset fulls = (met_begins, met_more, met_ends, no_unit, falsified_by)

bool_decides : (a b : Lit) → (a ≡ b) ⊎ (a ≢ b)
bool_decides a b = Rattle.sk_clause.proofs.ValueLemmas.lit_cases a b

-- each literal of a lesson is false
lesson_fails : (known : List (List Lit)) (vs : List (Option Bool)) (lv : List ℕ) (depth : ℕ) (c : List Lit) (turn : Lit) (back : ℕ) → IsLesson known vs lv depth c turn back → (m : Lit) → Contains c m → Fails vs m
lesson_fails known vs lv depth c turn back l m h = elim (bool_decides m turn) [
  | inl same ↦ subst (Fails vs) (sym same) l.fails
  | inr other ↦ (l.others m h other).0
]

pub lesson_consistent : (known : List (List Lit)) (vs : List (Option Bool)) (lv : List ℕ) (depth : ℕ) (c : List Lit) (turn : Lit) (back : ℕ) → IsLesson known vs lv depth c turn back → IsConsistent c
lesson_consistent known vs lv depth c turn back l = record {
  apart = λ m a b. (
      let f = lesson_fails known vs lv depth c turn back l m a in
      let g = lesson_fails known vs lv depth c turn back l (negated m) b in
      not_fails_holds vs (negated m) g (negated_holds vs m f));
}

pub lesson_within : (known : List (List Lit)) (vs : List (Option Bool)) (lv : List ℕ) (depth : ℕ) (c : List Lit) (turn : Lit) (back : ℕ) → IsLesson known vs lv depth c turn back → IsWithin (length vs) c
lesson_within known vs lv depth c turn back l = λ k d h. Holds-within vs (negated (get_or c k d)) (negated_holds vs (get_or c k d) (lesson_fails known vs lv depth c turn back l (get_or c k d) (Contains-get_or c k d h)))

pub ruleset learns = (lesson_consistent, lesson_within)
