-- Resolvents, and clauses that are added because they follow one after another.
use Rattle.std.proofs.Common.{◌≡◌, ◌≢◌, ◌⊎◌, inl, inr, Bool, true, false, not, ℕ, ◌+◌, ◌-◌, ◌<◌, ◌≤◌, ◌++◌, List, [], ◌∷◌, length, get_or, take, refl, sym, ◌∙◌, ap, arith, subst, Option}
use Rattle.std.specs.Prelude.{All, Contains}
use Rattle.std.proofs.lemmas.List.{append_assoc, append-nil, take-append-le, take_all, get_or_append_left, get_or-append_right, length-append}
use Rattle.std.proofs.lemmas.List.Elements.{All-nil, All-push, All-append, All-contains, Contains-get_or, Contains-push_cases, Contains-append_left}
use Rattle.sk_clause.specs.declared.lit.Lit.{Lit}
use Rattle.sk_clause.specs.Meaning.{negated, Closure, denied, forced, Falsifies, EachFollows, IsConsistent}
use Rattle.sk_clause.specs.Problem.{IsWithin, AreWithin}
use Rattle.sk_clause.proofs.MeaningLemmas.{Contains-here, Contains-later, Contains-cases, Contains-none}
use Rattle.sk_clause.proofs.ValueLemmas.{lit_cases, negated-negated}
use Rattle.sk_clause.proofs.ProblemLemmas.{AreWithin-get}
use Rattle.sk_sat.specs.declared.trail.Trail.{Trail}
use Rattle.sk_sat.specs.Trail.{IsTrail, IsTrailOf}
use Rattle.sk_sat.specs.Elimination.{IsRest, PutsOut, IsResolvent, Gathers}
use Rattle.sk_sat.proofs.CancelLemmas.{trail_more}
use Rattle.sk_sat.proofs.InsideLemmas.{more_cases}
use Rattle.sk_sat.proofs.SearchLemmas.{Searches, each_follows_push, effort_anew}

pub rest_begins : (c : List Lit) (p : Lit) (out : List Lit) → IsRest (take 0 c) p out
rest_begins c p out = record { each = λ m h. absurd (Contains-none m h) }

-- the next literal is p, or in the list
pub rest_more : (c : List Lit) (p : Lit) (out : List Lit) (i : ℕ) (d : Lit) → i < length c → IsRest (take i c) p out → (get_or c i d ≢ p → Contains out (get_or c i d)) → IsRest (take (i + 1) c) p out
rest_more c p out i d l h now = record {
  each = λ m w other. elim (more_cases c i d m l w) [
    | inl before ↦ h.each m before other
    | inr same ↦ subst (Contains out) same (now (λ e. other (sym same ∙ e)))
  ];
}

pub rest_push : (c : List Lit) (p : Lit) (out : List Lit) (l : Lit) → IsRest c p out → IsRest c p (out ++ l ∷ [])
rest_push c p out l h = record { each = λ m w other. Contains-append_left out (l ∷ []) m (h.each m w other) }

pub rest_ends : (c : List Lit) (p : Lit) (out : List Lit) (i : ℕ) → length c ≤ i → IsRest (take i c) p out → IsRest c p out
rest_ends c p out i l h = subst (λ x. IsRest x p out) (take_all i c l) h

not_own : (b : Bool) → b ≡ not b → ⊥
not_own true e = cc
not_own false e = cc

-- one literal more, whose negation is not there
pub consistent_push : (out : List Lit) (l : Lit) → IsConsistent out → (Contains out (negated l) → ⊥) → IsConsistent (out ++ l ∷ [])
consistent_push out l h none = record {
  apart = λ m a b. elim (Contains-push_cases out l m a) [
    | inl left ↦ elim (Contains-push_cases out l (negated m) b) [
      | inl right ↦ h.apart m left right
      | inr same ↦ none (subst (Contains out) (sym (ap negated same ∙ negated-negated m)) left)
    ]
    | inr own ↦ elim (Contains-push_cases out l (negated m) b) [
      | inl right ↦ none (subst (λ x. Contains out (negated x)) (sym own) right)
      | inr same ↦ not_own m.neg (ap (λ (x : Lit). x.neg) (sym own ∙ same))
    ]
  ];
}

pub put_begins : (c out : List Lit) → IsConsistent out → PutsOut c out out
put_begins c out h = record { keeps = λ m w. w; consistent = h; within = λ n a b. b }

pub put_more : (c before out : List Lit) (i : ℕ) (d : Lit) → i < length c → PutsOut c before out → (Contains out (negated (get_or c i d)) → ⊥) → PutsOut c before (out ++ get_or c i d ∷ [])
put_more c before out i d l h none = record {
  keeps = λ m w. Contains-append_left out (get_or c i d ∷ []) m (h.keeps m w);
  consistent = consistent_push out (get_or c i d) h.consistent none;
  within = λ n a b. All-push (λ m. m.var < n) out (get_or c i d) (h.within n a b) (All-contains (λ m. m.var < n) c (get_or c i d) a (Contains-get_or c i d l));
}

has_cases : (c : List Lit) (p : Lit) → Contains c p ⊎ ((m : Lit) → Contains c m → m ≢ p)
has_cases [] p = inr (λ m h. absurd (Contains-none m h))
has_cases (l ∷ c) p = elim (lit_cases l p) [
  | inl same ↦ inl (subst (Contains (l ∷ c)) same (Contains-here l c))
  | inr other ↦ elim (has_cases c p) [
    | inl later ↦ inl (Contains-later l c p later)
    | inr none ↦ inr (λ m h. elim (Contains-cases l c m h) [ inl e ↦ λ k. other (e ∙ k) | inr there ↦ none m there ])
  ]
]

-- a clause with each literal of two others but p in the one and its negation in the other follows from them
pub resolvent_follows : (known : List (List Lit)) (i j : ℕ) (p : Lit) (out : List Lit) → i < length known → j < length known → IsRest (get_or known i []) p out → IsRest (get_or known j []) (negated p) out → Falsifies known out
resolvent_follows known i j p out hi hj a b =
    let first = get_or known i [] in
    let denies : (m : Lit) → Contains out m → Closure known out (negated m) = λ m w. denied (subst (Contains out) (sym (negated-negated m)) w) in
    elim (has_cases first p) [
      | inr none ↦ (first, Contains-get_or known i [] hi, λ m w. denies m (a.each m w (none m w)))
      | inl has ↦ (let own : Closure known out p = forced first (Contains-get_or known i [] hi) has (λ m w other. denies m (a.each m w other)) in (
        get_or known j [],
        Contains-get_or known j [] hj,
        λ m w. elim (lit_cases m (negated p)) [
          | inl same ↦ subst (Closure known out) (sym (ap negated same ∙ negated-negated p)) own
          | inr other ↦ denies m (b.each m w other)
        ],
      ))
    ]

pub consistent_none : IsConsistent []
consistent_none = record { apart = λ l h. absurd (Contains-none l h) }

-- the literals of two clauses but p and its negation, put out one clause after the other
pub resolvent_is : (known : List (List Lit)) (i j : ℕ) (p : Lit) (mid out : List Lit) → i < length known → j < length known → IsRest (get_or known i []) p mid → PutsOut (get_or known i []) [] mid
    → IsRest (get_or known j []) (negated p) out → PutsOut (get_or known j []) mid out → IsResolvent known out
resolvent_is known i j p mid out hi hj a put b more = record {
  follows = resolvent_follows known i j p out hi hj (record { each = λ m w other. more.keeps m (a.each m w other) }) b;
  consistent = more.consistent;
  within = λ n w. more.within n (AreWithin-get n known j hj w) (put.within n (AreWithin-get n known i hi w) (All-nil (λ l. l.var < n)));
}

pub each_follows_join : (cs a b : List (List Lit)) → EachFollows cs a → EachFollows (cs ++ a) b → EachFollows cs (a ++ b)
each_follows_join cs a b h k i l = elim (Rattle.std.proofs.lemmas.Bool.cases_lt i (length a)) [
  | inl left ↦ rw (take-append-le i a b (omega arith), get_or_append_left a b [] i left) (h i left)
  | inr right ↦ (let n : i - length a < length b = omega (arith, length-append a b) in
      let e : length a + (i - length a) ≡ i = omega arith in
      let t : take i (a ++ b) ≡ a ++ take (i - length a) b = ap (λ x. take x (a ++ b)) (sym e) ∙ Rattle.std.proofs.Math.Seq.take-append-add a b (i - length a) in
      rw (t, get_or-append_right a b (length a) i [] refl right, sym (append_assoc cs a (take (i - length a) b))) (k (i - length a) n))
]

pub gathers_none : (known fresh : List (List Lit)) → Gathers known known fresh fresh
gathers_none known fresh = record {
  more = [];
  pushed = sym (append-nil known);
  kept = sym (append-nil fresh);
  each = λ i l. absurd (omega arith);
  consistent = All-nil IsConsistent;
  within = λ n w. All-nil (IsWithin n);
}

pub gathers_one : (known known' fresh fresh' : List (List Lit)) (c : List Lit) → IsResolvent known c → known' ≡ known ++ c ∷ [] → fresh' ≡ fresh ++ c ∷ [] → Gathers known known' fresh fresh'
gathers_one known known' fresh fresh' c r p k = record {
  more = c ∷ [];
  pushed = p;
  kept = k;
  each = each_follows_push known [] known c (sym (append-nil known)) (λ i l. absurd (omega arith)) r.follows;
  consistent = All-push IsConsistent [] c (All-nil IsConsistent) r.consistent;
  within = λ n w. All-push (IsWithin n) [] c (All-nil (IsWithin n)) (r.within n w);
}

pub gathered_within : (vars : ℕ) (known known' fresh fresh' : List (List Lit)) → Gathers known known' fresh fresh' → AreWithin vars known → AreWithin vars known'
gathered_within vars known known' fresh fresh' g w = subst (AreWithin vars) (sym g.pushed) (All-append (IsWithin vars) known g.more w (g.within vars w))

pub gathers_both : (known known' known'' fresh fresh' fresh'' : List (List Lit)) → Gathers known known' fresh fresh' → Gathers known' known'' fresh' fresh'' → Gathers known known'' fresh fresh''
gathers_both known known' known'' fresh fresh' fresh'' g h = record {
  more = g.more ++ h.more;
  pushed = h.pushed ∙ ap (λ x. x ++ h.more) g.pushed ∙ append_assoc known g.more h.more;
  kept = h.kept ∙ ap (λ x. x ++ h.more) g.kept ∙ append_assoc fresh g.more h.more;
  each = each_follows_join known g.more h.more g.each (subst (λ x. EachFollows x h.more) g.pushed h.each);
  consistent = All-append IsConsistent g.more h.more g.consistent h.consistent;
  within = λ n w. All-append (IsWithin n) g.more h.more (g.within n w) (h.within n (gathered_within n known known' fresh fresh' g w));
}

trail_joined : (known more : List (List Lit)) (vs : List (Option Bool)) (lv rs : List ℕ) (ls : List Lit) (lims : List ℕ) → IsTrailOf known vs lv rs ls lims → IsTrailOf (known ++ more) vs lv rs ls lims
trail_joined known [] vs lv rs ls lims t = rw append-nil t
trail_joined known (c ∷ more) vs lv rs ls lims t = subst (λ x. IsTrailOf x vs lv rs ls lims) (append_assoc known (c ∷ []) more) (trail_joined (known ++ c ∷ []) more vs lv rs ls lims (trail_more known c vs lv rs ls lims t))

pub trail_gathered : (known known' fresh fresh' : List (List Lit)) (vs : List (Option Bool)) (lv rs : List ℕ) (ls : List Lit) (lims : List ℕ) → Gathers known known' fresh fresh' → IsTrailOf known vs lv rs ls lims → IsTrailOf known' vs lv rs ls lims
trail_gathered known known' fresh fresh' vs lv rs ls lims g t = subst (λ x. IsTrailOf x vs lv rs ls lims) (sym g.pushed) (trail_joined known g.more vs lv rs ls lims t)

-- a search goes on with clauses that were gathered, where it may learn as many as it likes
pub searches_gathered : (clauses : List (List Lit)) (vars budget : ℕ) (known known' fresh fresh' : List (List Lit)) (t t' : Trail) (left : ℕ)
    → Searches clauses vars budget known fresh t left → budget ≡ 0 → Gathers known known' fresh fresh' → IsTrail known' t' → length t'.values.items ≡ length t.values.items → Searches clauses vars budget known' fresh' t' left
searches_gathered clauses vars budget known known' fresh fresh' t t' left s none g h e = record {
  grown = g.pushed ∙ ap (λ x. x ++ g.more) s.grown ∙ append_assoc clauses fresh g.more ∙ ap (λ x. clauses ++ x) (sym g.kept);
  each = subst (EachFollows clauses) (sym g.kept) (each_follows_join clauses fresh g.more s.each (subst (λ x. EachFollows x g.more) s.grown g.each));
  consistent = subst (All IsConsistent) (sym g.kept) (All-append IsConsistent fresh g.more s.consistent g.consistent);
  unlike = λ p. absurd (omega arith);
  within = gathered_within vars known known' fresh fresh' g s.within;
  on_trail = h;
  long = e ∙ s.long;
  endless = s.endless;
  some = λ p. absurd (omega arith);
}

pub ruleset rests = (rest_begins, rest_more, rest_push, rest_ends, put_begins, put_more)

pub ruleset resolvents = (consistent_none, resolvent_is)

pub ruleset gathers = (gathers_none, gathers_one, gathers_both)

pub ruleset reductions = (gathers_none, trail_gathered, effort_anew)
