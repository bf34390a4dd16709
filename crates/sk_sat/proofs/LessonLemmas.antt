-- From a conflict to a lesson.
use Rattle.std.proofs.Common.{◌≡◌, inl, inr, Bool, true, false, ℕ, suc, ◌+◌, ◌<◌, ◌≤◌, ◌++◌, List, [], ◌∷◌, length, get_or, take, max, refl, sym, ap, arith, subst, Option}
use Rattle.std.specs.Prelude.{Contains}
use Rattle.std.proofs.lemmas.List.{take_more, take_all}
use Rattle.std.proofs.lemmas.List.Elements.{Contains-push_cases, Contains-push, Contains-append_left}
use Rattle.sk_clause.specs.declared.lit.Lit.{Lit}
use Rattle.sk_clause.specs.Meaning.{negated, denied}
use Rattle.sk_clause.proofs.MeaningLemmas.{Contains-none}
use Rattle.sk_clause.proofs.ValueLemmas.{negated_holds, fails_from_negated, negated-negated, negated_fails}
use Rattle.sk_sat.specs.Analysis.{level_at, marked_count, Absorbs, IsKept, IsFalsified, IsTurn, IsLesson, IsClean}
use Rattle.sk_sat.proofs.AnalysisLemmas.{marked_count-clear}
use Rattle.sk_sat.proofs.ResolveLemmas.{pending_begins}

-- the deepest level so far
pub record IsDeepest (level : List ℕ) (c : List Lit) (n : ℕ) : Type 0 where
  pub most : (m : Lit) → Contains c m → level_at level m ≤ n
  pub some : 0 < n → (m : Lit) × Contains c m × (level_at level m ≡ n)

pub deepest_begins : (level : List ℕ) (c : List Lit) → IsDeepest level (take 0 c) 0
deepest_begins level c = record { most = λ m h. absurd (Contains-none m h); some = λ h. absurd (omega arith) }

pub deepest_more : (level : List ℕ) (c : List Lit) (i : ℕ) (d : Lit) (n : ℕ) → i < length c → IsDeepest level (take i c) n → IsDeepest level (take (i + 1) c) (max n (get_or level (get_or c i d).var 0))
deepest_more level c i d n l h = record {
  most = λ m w. elim (Contains-push_cases (take i c) (get_or c i d) m (subst (λ x. Contains x m) (take_more c i d l) w)) [
    | inl before ↦ (let b = h.most m before in omega arith)
    | inr same ↦ (let b : get_or level (get_or c i d).var 0 ≡ level_at level m = ap (λ (x : Lit). get_or level x.var 0) same in omega arith)
  ];
  some = λ pos. elim (Rattle.std.proofs.lemmas.Bool.cases_lt n (get_or level (get_or c i d).var 0)) [
    | inl deeper ↦ (get_or c i d, subst (λ x. Contains x (get_or c i d)) (sym (take_more c i d l)) (Contains-push (take i c) (get_or c i d)), omega arith)
    | inr before ↦ (let p : 0 < n = omega arith in let r = h.some p in (r.0, subst (λ x. Contains x r.0) (sym (take_more c i d l)) (Contains-append_left (take i c) (get_or c i d ∷ []) r.0 r.1), (let e = r.2 in omega arith)))
  ];
}

pub deepest_all : (level : List ℕ) (c : List Lit) (i n : ℕ) → length c ≤ i → IsDeepest level (take i c) n → IsDeepest level c n
deepest_all level c i n l h = subst (λ x. IsDeepest level x n) (take_all i c l) h

pub ruleset depths = (deepest_begins, deepest_more, deepest_all)

pub marked_count-clean : (marks : List Bool) → IsClean marks → marked_count marks ≡ 0
marked_count-clean [] h = refl
marked_count-clean (true ∷ ms) h = absurd (h.none 0 refl)
marked_count-clean (false ∷ ms) h = marked_count-clean ms (record { none = λ v k. h.none (suc v) k })

pub none_marked : (marks : List Bool) → IsClean marks → (v : ℕ) → get_or marks v false ≡ true → ⊥
none_marked marks h = h.none

pub kept_none : (vs : List (Option Bool)) (kept : List Bool) → IsClean kept → IsKept vs kept []
kept_none vs kept h = record { there = λ m f k. absurd (h.none m.var k); only = record { each = λ v k. absurd (h.none v k) } }

-- a literal of the depth was marked
pub marked_some : (known : List (List Lit)) (vs : List (Option Bool)) (lv : List ℕ) (depth i : ℕ) (marks marks' : List Bool) (out' : List Lit) (m : Lit)
    → IsFalsified known vs i → 0 < depth → Contains (get_or known i []) m → level_at lv m ≡ depth
    → Absorbs vs lv depth (get_or known i []) marks [] marks' out' → 0 < marked_count marks'
marked_some known vs lv depth i marks marks' out' m f some within deep a = elim (a.covers m (record { inside = within; fails = f.each m within })) [
  | inl open' ↦ omega (arith, marked_count-clear marks' m.var open')
  | inr b ↦ elim b [
    | inl put ↦ elim (a.put m put) [ inl none ↦ absurd (Contains-none m none) | inr now ↦ absurd (now.1 deep) ]
    | inr low ↦ absurd (omega arith)
  ]
]

pub ruleset turns = (pending_begins, marked_some, marked_count-clean, kept_none, none_marked)

pub lesson_from : (known : List (List Lit)) (vs : List (Option Bool)) (lv : List ℕ) (depth : ℕ) (out : List Lit) (u : Lit) (back : ℕ)
    → IsTurn known vs lv depth out u → 0 < depth → ((m : Lit) → Contains out m → level_at lv m ≤ back) → (0 < back → (m : Lit) × Contains out m × (level_at lv m ≡ back))
    → IsLesson known vs lv depth (out ++ negated u ∷ []) (negated u) back
lesson_from known vs lv depth out u back t some most one = record {
  follows = t.implied (out ++ negated u ∷ []) (Contains-push out (negated u))
      (λ m h. denied (subst (Contains (out ++ negated u ∷ [])) (sym (negated-negated m)) (Contains-append_left out (negated u ∷ []) m h)));
  has = Contains-push out (negated u);
  fails = negated_fails vs u t.holds;
  deep = t.deep;
  others = λ m h other. elim (Contains-push_cases out (negated u) m h) [
    | inl put ↦ ((t.outs m put).0, most m put)
    | inr same ↦ absurd (other (sym same))
  ];
  less = elim (Rattle.std.proofs.lemmas.Bool.cases_lt 0 back) [
    | inl pos ↦ (let r = one pos in let d = (t.outs r.0 r.1).1 in let e = r.2 in omega arith)
    | inr z ↦ omega arith
  ];
}

pub outs_within : (known : List (List Lit)) (vs : List (Option Bool)) (lv : List ℕ) (depth : ℕ) (out : List Lit) (u : Lit) → length lv ≡ length vs → IsTurn known vs lv depth out u → (k : ℕ) (d : Lit) → k < length out → (get_or out k d).var < length lv
outs_within known vs lv depth out u e t k d h = let f = t.outs (get_or out k d) (Rattle.std.proofs.lemmas.List.Elements.Contains-get_or out k d h) in
    let w = Rattle.sk_clause.proofs.ValueLemmas.Holds-within vs (negated (get_or out k d)) (negated_holds vs (get_or out k d) f.0) in omega arith

pub ruleset lessons = (lesson_from, outs_within)
