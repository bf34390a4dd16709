-- The steps of the search.
use Rattle.std.proofs.Common.{◌≡◌, ◌≢◌, inl, inr, Bool, true, false, not, ℕ, zero, suc, ◌+◌, ◌-◌, ◌*◌, ◌^◌, ◌<◌, ◌≤◌, ◌++◌, List, [], ◌∷◌, length, get_or, take, map, refl, sym, ◌∙◌, ap, arith, subst, Option, Some, None}
use Rattle.std.proofs.Math.Nat.{suc-mul}
use Rattle.std.specs.Prelude.{All, Contains, unwrap_or, if◌then◌else◌}
use Rattle.std.proofs.lemmas.List.{append-nil, append_assoc, take-append-le, take_at, get_or_append_left, get_or_push, length_push}
use Rattle.std.proofs.lemmas.List.Elements.{All-push, All-nil, Contains-append_left}
use Rattle.sk_clause.specs.declared.lit.Lit.{Lit}
use Rattle.sk_clause.specs.Meaning.{Falsifies, Follows, EachFollows, Meets, lit_true, clause_true, valuation}
use Rattle.sk_clause.specs.Problem.{IsWithin, AreWithin}
use Rattle.sk_clause.proofs.MeaningLemmas.{true_by}
use Rattle.sk_clause.specs.Values.{signed, Holds}
use Rattle.sk_sat.specs.declared.trail.Trail.{Trail}
use Rattle.sk_sat.specs.Trail.{IsTrail, progress, work, effort}
use Rattle.sk_sat.specs.Round.{Adds, IsUnlike, IsMet, GoesOn}
use Rattle.sk_sat.specs.Search.{IsUnspent}
use Rattle.sk_clause.specs.Meaning.{IsConsistent, Includes, NoneIncludes}
use Rattle.sk_sat.proofs.NumberLemmas.{number_lt, rises_long}
use Rattle.sk_sat.proofs.SettleLemmas.{trail_rises}
use Rattle.sk_sat.proofs.TrailLemmas.{each_push}

pub each_follows_push : (clauses log known : List (List Lit)) (c : List Lit) → known ≡ clauses ++ log → EachFollows clauses log → Falsifies known c → EachFollows clauses (log ++ c ∷ [])
each_follows_push clauses log known c e each f = each_push log c (λ i. Follows (clauses ++ take i (log ++ c ∷ [])) (get_or (log ++ c ∷ []) i []))
    (λ i h. rw (take-append-le i log (c ∷ []) (omega arith), get_or_append_left log (c ∷ []) [] i h) (each i h))
    (rw (take_at log (c ∷ []) (length log) refl, get_or_push log c [] (length log) refl) (inr (subst (λ x. Falsifies x c) e f)))

none_includes_push : (clauses log known : List (List Lit)) (c : List Lit) → known ≡ clauses ++ log → NoneIncludes clauses log → IsUnlike known c → NoneIncludes clauses (log ++ c ∷ [])
none_includes_push clauses log known c e none u = each_push log c (λ i. (d : List Lit) → Contains (clauses ++ take i (log ++ c ∷ [])) d → Includes (get_or (log ++ c ∷ []) i []) d → ⊥)
    (λ i h d w k. none i h d (subst (λ x. Contains (clauses ++ x) d) (take-append-le i log (c ∷ []) (omega arith)) w) (subst (λ x. Includes x d) (get_or_append_left log (c ∷ []) [] i h) k))
    (λ d w k. u.apart d (subst (λ x. Contains x d) (ap (λ x. clauses ++ x) (take_at log (c ∷ []) (length log) refl) ∙ sym e) w) (subst (λ x. Includes x d) (get_or_push log c [] (length log) refl) k))

-- where a search is
pub record Searches (clauses : List (List Lit)) (vars budget : ℕ) (known fresh : List (List Lit)) (trail : Trail) (left : ℕ) : Type 0 where
  pub grown : known ≡ clauses ++ fresh
  pub each : EachFollows clauses fresh
  pub consistent : All IsConsistent fresh
  pub unlike : 0 < budget → NoneIncludes clauses fresh
  pub within : AreWithin vars known
  pub on_trail : IsTrail known trail
  pub long : length trail.values.items ≡ vars
  pub endless : budget ≡ 0 → left ≡ 0
  pub some : 0 < budget → (0 < left) × (left + length fresh ≡ budget)

pub searches_begin : (clauses fresh : List (List Lit)) (vars budget : ℕ) (t : Trail) → fresh ≡ [] → AreWithin vars clauses → IsTrail clauses t → length t.values.items ≡ vars → Searches clauses vars budget clauses fresh t budget
searches_begin clauses fresh vars budget t e w h l = record {
  grown = sym (ap (λ x. clauses ++ x) e ∙ append-nil clauses);
  each = λ i k. absurd (omega (arith, ap length e));
  consistent = subst (All IsConsistent) (sym e) (All-nil IsConsistent);
  unlike = λ p i k d w j. absurd (omega (arith, ap length e));
  within = w;
  on_trail = h;
  long = l;
  endless = λ z. z;
  some = λ p. (p, omega (arith, ap length e));
}

module _ (clauses : List (List Lit)) (vars budget : ℕ) (known fresh : List (List Lit)) (t : Trail) (left : ℕ) (s : Searches clauses vars budget known fresh t left) (known' fresh' : List (List Lit)) where
  pub searches_decided : (t' : Trail) → known' ≡ known → fresh' ≡ fresh → GoesOn known' t t' → Searches clauses vars budget known' fresh' t' left
  searches_decided t' e f g = record {
    grown = e ∙ s.grown ∙ ap (λ x. clauses ++ x) (sym f);
    each = subst (EachFollows clauses) (sym f) s.each;
    consistent = subst (All IsConsistent) (sym f) s.consistent;
    unlike = λ p. subst (NoneIncludes clauses) (sym f) (s.unlike p);
    within = subst (AreWithin vars) (sym e) s.within;
    on_trail = g.trail;
    long = g.long ∙ s.long;
    endless = s.endless;
    some = λ p. (let q = s.some p in (q.0, omega (arith, ap length f, q.1)));
  }

  module _ (c : List Lit) (a : Adds known known' fresh fresh' (length t.values.items) c) (u : 0 < budget → IsUnlike known c) where
    pub grown_added : known' ≡ clauses ++ fresh'
    grown_added = a.pushed ∙ ap (λ x. x ++ c ∷ []) s.grown ∙ append_assoc clauses fresh (c ∷ []) ∙ ap (λ x. clauses ++ x) (sym a.kept)

    pub each_added : EachFollows clauses fresh'
    each_added = subst (EachFollows clauses) (sym a.kept) (each_follows_push clauses fresh known c s.grown s.each a.follows)

    pub consistent_added : All IsConsistent fresh'
    consistent_added = subst (All IsConsistent) (sym a.kept) (All-push IsConsistent fresh c s.consistent a.consistent)

    pub within_added : AreWithin vars known'
    within_added = subst (AreWithin vars) (sym a.pushed) (All-push (IsWithin vars) known c s.within (subst (λ n. IsWithin n c) s.long a.within))

    pub unlike_added : 0 < budget → NoneIncludes clauses fresh'
    unlike_added p = subst (NoneIncludes clauses) (sym a.kept) (none_includes_push clauses fresh known c s.grown (s.unlike p) (u p))

    length_added : length fresh' ≡ length fresh + 1
    length_added = ap length a.kept ∙ length_push fresh c

    pub searches_learnt : (t' : Trail) → GoesOn known' t t' → left ≢ 1 → Searches clauses vars budget known' fresh' t' (left - 1)
    searches_learnt t' g n = record {
      grown = grown_added;
      each = each_added;
      consistent = consistent_added;
      unlike = unlike_added;
      within = within_added;
      on_trail = g.trail;
      long = g.long ∙ s.long;
      endless = λ z. (let q = s.endless z in omega arith);
      some = λ p. (let q = s.some p in let l = length_added in (omega arith, omega arith));
    }

    pub spent_added : left ≡ 1 → (0 < budget) × (length fresh' ≡ budget) × NoneIncludes clauses fresh'
    spent_added e = elim (Rattle.std.proofs.lemmas.Bool.cases_lt 0 budget) [
      | inl p ↦ (p, (let q = s.some p in let l = length_added in omega arith), unlike_added p)
      | inr z ↦ absurd (let q = s.endless (omega arith) in omega arith)
    ]

  pub unspent : fresh' ≡ fresh → IsUnspent budget fresh'
  unspent f p = (let q = s.some p in let l = ap length f in omega arith)

signed_value : (n : Bool) (o : Option Bool) → signed n o ≡ Some true → (if n then not (unwrap_or o false) else unwrap_or o false) ≡ true
signed_value n None h = absurd (cc)
signed_value true (Some true) h = cc
signed_value true (Some false) h = refl
signed_value false (Some true) h = refl
signed_value false (Some false) h = cc

get_or-bits : (vs : List (Option Bool)) (i : ℕ) → get_or (map (λ o. unwrap_or o false) vs) i false ≡ unwrap_or (get_or vs i None) false
get_or-bits [] i = refl
get_or-bits (v ∷ vs) zero = refl
get_or-bits (v ∷ vs) (suc i) = get_or-bits vs i

holds_true : (vs : List (Option Bool)) (l : Lit) → Holds vs l → lit_true (valuation (map (λ o. unwrap_or o false) vs)) l ≡ true
holds_true vs l h = rw (get_or-bits vs l.var) (signed_value l.neg (get_or vs l.var None) h)

pub met_all : (clauses known fresh : List (List Lit)) (vs : List (Option Bool)) (bits : List Bool) → known ≡ clauses ++ fresh → IsMet known vs → bits ≡ map (λ o. unwrap_or o false) vs → Meets (valuation bits) clauses
met_all clauses known fresh vs bits e m b c within =
    let r = m.each c (subst (λ x. Contains x c) (sym e) (Contains-append_left clauses fresh c within)) in
    subst (λ x. clause_true (valuation x) c ≡ true) (sym b) (true_by (valuation (map (λ o. unwrap_or o false) vs)) c r.0 r.1 (holds_true vs r.0 r.2))

pub work_falls : (known known' : List (List Lit)) (t t' : Trail) → IsTrail known' t' → length t'.values.items ≡ length t.values.items → progress t < progress t' → work t' < work t
work_falls known known' t t' h e p =
    let n = length t'.values.items in
    let r = trail_rises known' t' h in
    let a : length t'.lits.items < n + 1 = omega (arith, h.agrees.total) in
    let b : length t'.lims.items ≤ n = omega (arith, rises_long 0 t'.lims.items (length t'.lits.items) r, h.agrees.total) in
    let l = number_lt (n + 1) n 0 t'.lims.items (length t'.lits.items) a r b in
    let f : (length t'.values.items + 1) ^ (suc (length t'.values.items)) ≡ (length t.values.items + 1) ^ (suc (length t.values.items)) = ap (λ k. (k + 1) ^ (suc k)) e in
    omega arith

pub effort_falls : (left : ℕ) (t t' : Trail) → length t'.values.items ≡ length t.values.items → work t' < work t → effort left t' < effort left t
effort_falls left t t' e h =
    let f : left * suc ((length t'.values.items + 1) ^ (suc (length t'.values.items))) ≡ left * suc ((length t.values.items + 1) ^ (suc (length t.values.items))) = ap (λ k. left * suc ((k + 1) ^ (suc k))) e in
    omega arith

-- a restart costs less than what it takes from the restarts left
pub effort_anew : (left left' : ℕ) (t t' : Trail) → left' + 1 ≡ left → length t'.values.items ≡ length t.values.items → effort left' t' ≤ effort left t
effort_anew left left' t t' l e =
    let top : ℕ = (length t.values.items + 1) ^ (suc (length t.values.items)) in
    let f : left' * suc ((length t'.values.items + 1) ^ (suc (length t'.values.items))) ≡ left' * suc top = ap (λ k. left' * suc ((k + 1) ^ (suc k))) e in
    let g : (length t'.values.items + 1) ^ (suc (length t'.values.items)) ≡ top = ap (λ k. (k + 1) ^ (suc k)) e in
    let h : left * suc top ≡ suc left' * suc top = ap (λ k. k * suc top) (omega arith) in
    omega (arith, suc-mul left' (suc top))

-- as is a restart that had nothing to go back
pub effort_same : (left left' : ℕ) (t : Trail) → left' + 1 ≡ left → effort left' t ≤ effort left t
effort_same left left' t l = effort_anew left left' t t l refl

pub searches_anew : (clauses : List (List Lit)) (vars budget : ℕ) (known fresh : List (List Lit)) (t t' : Trail) (left : ℕ)
    → Searches clauses vars budget known fresh t left → IsTrail known t' → length t'.values.items ≡ length t.values.items → Searches clauses vars budget known fresh t' left
searches_anew clauses vars budget known fresh t t' left s h e = record {
  grown = s.grown;
  each = s.each;
  consistent = s.consistent;
  unlike = s.unlike;
  within = s.within;
  on_trail = h;
  long = e ∙ s.long;
  endless = s.endless;
  some = s.some;
}

pub ruleset restarts = (effort_anew, effort_same)

pub ruleset searches = (searches_begin, searches_decided, searches_learnt, grown_added, each_added, consistent_added, within_added, spent_added, unspent, met_all, work_falls)
