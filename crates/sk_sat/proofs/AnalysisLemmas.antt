-- How marks and literals put out change, and what they cover.
use Rattle.std.proofs.Common.{◌≡◌, ◌≢◌, ◌⊎◌, inl, inr, Bool, true, false, ℕ, zero, suc, ◌+◌, ◌<◌, ◌≤◌, ◌++◌, List, [], ◌∷◌, length, get_or, set, take, refl, sym, ◌∙◌, ap, arith, subst, Option}
use Rattle.std.specs.Prelude.{Contains}
use Rattle.std.proofs.lemmas.List.{get_or-set_same, get_or-set_other, length-set, take_more}
use Rattle.std.proofs.lemmas.List.Elements.{Contains-push, Contains-append_left, Contains-append_right, Contains-append_cases, Contains-push_cases}
use Rattle.std.proofs.lemmas.Bool.{cases_eq}
use Rattle.sk_clause.specs.declared.lit.Lit.{Lit}
use Rattle.sk_clause.proofs.MeaningLemmas.{Contains-cases, Contains-none}
use Rattle.sk_clause.specs.Values.{Fails}
use Rattle.sk_clause.proofs.ValueLemmas.{same_var_fails}
use Rattle.sk_sat.specs.Analysis.{level_at, is_open, marked_count, IsCovered, IsFalseIn, Absorbs, IsKept}

only_one : (l m : Lit) → Contains (l ∷ []) m → l ≡ m
only_one l m h = elim (Contains-cases l [] m h) [ inl e ↦ e | inr n ↦ absurd (Contains-none m n) ]

-- nothing to deal with
pub absorbs_nothing : (vs : List (Option Bool)) (lv : List ℕ) (depth : ℕ) (c : List Lit) (marks : List Bool) (out : List Lit) → ((m : Lit) → IsFalseIn vs c m → IsCovered lv marks out m) → Absorbs vs lv depth c marks out marks out
absorbs_nothing vs lv depth c marks out h = record { covers = h; keeps = λ m k. k; marked = λ v k. inl k; put = λ m k. inl k }

pub absorbs_none : (vs : List (Option Bool)) (lv : List ℕ) (depth : ℕ) (marks : List Bool) (out : List Lit) → Absorbs vs lv depth [] marks out marks out
absorbs_none vs lv depth marks out = absorbs_nothing vs lv depth [] marks out (λ m h. absurd (Contains-none m h.inside))

covered_one : (vs : List (Option Bool)) (lv : List ℕ) (l : Lit) (marks : List Bool) (out : List Lit) → IsCovered lv marks out l → (m : Lit) → IsFalseIn vs (l ∷ []) m → IsCovered lv marks out m
covered_one vs lv l marks out h m k = subst (IsCovered lv marks out) (only_one l m k.inside) h

pub absorbs_true : (vs : List (Option Bool)) (lv : List ℕ) (depth : ℕ) (l : Lit) (marks : List Bool) (out : List Lit) → (Fails vs l → ⊥) → Absorbs vs lv depth (l ∷ []) marks out marks out
absorbs_true vs lv depth l marks out h = absorbs_nothing vs lv depth (l ∷ []) marks out (λ m k. absurd (h (subst (Fails vs) (sym (only_one l m k.inside)) k.fails)))

pub absorbs_marked : (vs : List (Option Bool)) (lv : List ℕ) (depth : ℕ) (l : Lit) (marks : List Bool) (out : List Lit) → is_open marks l ≡ true → Absorbs vs lv depth (l ∷ []) marks out marks out
absorbs_marked vs lv depth l marks out h = absorbs_nothing vs lv depth (l ∷ []) marks out (covered_one vs lv l marks out (inl h))

pub absorbs_put : (vs : List (Option Bool)) (lv : List ℕ) (depth : ℕ) (l : Lit) (marks : List Bool) (out : List Lit) → Contains out l → Absorbs vs lv depth (l ∷ []) marks out marks out
absorbs_put vs lv depth l marks out h = absorbs_nothing vs lv depth (l ∷ []) marks out (covered_one vs lv l marks out (inr (inl h)))

pub absorbs_low : (vs : List (Option Bool)) (lv : List ℕ) (depth : ℕ) (l : Lit) (marks : List Bool) (out : List Lit) → level_at lv l ≡ 0 → Absorbs vs lv depth (l ∷ []) marks out marks out
absorbs_low vs lv depth l marks out h = absorbs_nothing vs lv depth (l ∷ []) marks out (covered_one vs lv l marks out (inr (inr h)))

pub set_kept : (marks : List Bool) (v w : ℕ) → v < length marks → get_or marks w false ≡ true → get_or (set marks v true) w false ≡ true
set_kept marks v w l h = elim (cases_eq w v) [
  | inl same ↦ ap (λ i. get_or (set marks v true) i false) same ∙ get_or-set_same marks v true false l
  | inr other ↦ get_or-set_other marks v w true false other ∙ h
]

pub set_cases : (marks : List Bool) (v w : ℕ) → v < length marks → get_or (set marks v true) w false ≡ true → (w ≡ v) ⊎ (get_or marks w false ≡ true)
set_cases marks v w l h = elim (cases_eq w v) [
  | inl same ↦ inl same
  | inr other ↦ inr (sym (get_or-set_other marks v w true false other) ∙ h)
]

pub absorbs_mark : (vs : List (Option Bool)) (lv : List ℕ) (depth : ℕ) (l : Lit) (marks : List Bool) (out : List Lit) → Fails vs l → l.var < length marks → level_at lv l ≡ depth → Absorbs vs lv depth (l ∷ []) marks out (set marks l.var true) out
absorbs_mark vs lv depth l marks out f w e = record {
  covers = covered_one vs lv l (set marks l.var true) out (inl (get_or-set_same marks l.var true false w));
  keeps = λ m k. elim k [ inl a ↦ inl (set_kept marks l.var m.var w a) | inr b ↦ inr b ];
  marked = λ v k. elim (set_cases marks l.var v w k) [
    | inl same ↦ inr (l, record { inside = Rattle.sk_clause.proofs.MeaningLemmas.Contains-here l []; fails = f }, sym same, e)
    | inr before ↦ inl before
  ];
  put = λ m k. inl k;
}

pub absorbs_out : (vs : List (Option Bool)) (lv : List ℕ) (depth : ℕ) (l : Lit) (marks : List Bool) (out : List Lit) → Fails vs l → level_at lv l ≢ depth → Absorbs vs lv depth (l ∷ []) marks out marks (out ++ l ∷ [])
absorbs_out vs lv depth l marks out f e = record {
  covers = covered_one vs lv l marks (out ++ l ∷ []) (inr (inl (Contains-push out l)));
  keeps = λ m k. elim k [ inl a ↦ inl a | inr b ↦ elim b [ inl there ↦ inr (inl (Contains-append_left out (l ∷ []) m there)) | inr zero_now ↦ inr (inr zero_now) ] ];
  marked = λ v k. inl k;
  put = λ m k. elim (Contains-push_cases out l m k) [
    | inl before ↦ inl before
    | inr same ↦ inr (subst (λ x. IsFalseIn vs (l ∷ []) x × (level_at lv x ≢ depth)) same (record { inside = Rattle.sk_clause.proofs.MeaningLemmas.Contains-here l []; fails = f }, e))
  ];
}

pub kept_out : (vs : List (Option Bool)) (kept : List Bool) (l : Lit) (out : List Lit) → Fails vs l → l.var < length kept → IsKept vs kept out → IsKept vs (set kept l.var true) (out ++ l ∷ [])
kept_out vs kept l out f w h = record {
  there = λ m k o. elim (set_cases kept l.var m.var w o) [
    | inl same ↦ subst (Contains (out ++ l ∷ [])) (same_var_fails vs l m f k same) (Contains-push out l)
    | inr before ↦ Contains-append_left out (l ∷ []) m (h.there m k before)
  ];
  only = record {
    each = λ v o. elim (set_cases kept l.var v w o) [
      | inl same ↦ (l, Contains-push out l, sym same)
      | inr before ↦ (let r = h.only.each v before in (r.0, Contains-append_left out (l ∷ []) r.0 r.1, r.2))
    ];
  };
}

pub kept_there : (vs : List (Option Bool)) (kept : List Bool) (l : Lit) (out : List Lit) → Fails vs l → is_open kept l ≡ true → IsKept vs kept out → Contains out l
kept_there vs kept l out f o h = h.there l f o

-- one clause after another
pub absorbs_both : (vs : List (Option Bool)) (lv : List ℕ) (depth : ℕ) (c d : List Lit) (marks marks' marks'' : List Bool) (out out' out'' : List Lit)
    → Absorbs vs lv depth c marks out marks' out' → Absorbs vs lv depth d marks' out' marks'' out'' → Absorbs vs lv depth (c ++ d) marks out marks'' out''
absorbs_both vs lv depth c d marks marks' marks'' out out' out'' a b = record {
  covers = λ m h. elim (Contains-append_cases c d m h.inside) [
    | inl left ↦ b.keeps m (a.covers m (record { inside = left; fails = h.fails }))
    | inr right ↦ b.covers m (record { inside = right; fails = h.fails })
  ];
  keeps = λ m h. b.keeps m (a.keeps m h);
  marked = λ v h. elim (b.marked v h) [
    | inl before ↦ elim (a.marked v before) [ inl first ↦ inl first | inr now ↦ inr (now.0, record { inside = Contains-append_left c d now.0 now.1.inside; fails = now.1.fails }, now.2, now.3) ]
    | inr now ↦ inr (now.0, record { inside = Contains-append_right c d now.0 now.1.inside; fails = now.1.fails }, now.2, now.3)
  ];
  put = λ m h. elim (b.put m h) [
    | inl before ↦ elim (a.put m before) [ inl first ↦ inl first | inr now ↦ inr (record { inside = Contains-append_left c d m now.0.inside; fails = now.0.fails }, now.1) ]
    | inr now ↦ inr (record { inside = Contains-append_right c d m now.0.inside; fails = now.0.fails }, now.1)
  ];
}

pub absorbs_more : (vs : List (Option Bool)) (lv : List ℕ) (depth : ℕ) (c : List Lit) (i : ℕ) (d : Lit) (marks marks' marks'' : List Bool) (out out' out'' : List Lit)
    → i < length c → Absorbs vs lv depth (take i c) marks out marks' out' → Absorbs vs lv depth (get_or c i d ∷ []) marks' out' marks'' out'' → Absorbs vs lv depth (take (i + 1) c) marks out marks'' out''
absorbs_more vs lv depth c i d marks marks' marks'' out out' out'' l a b =
    subst (λ x. Absorbs vs lv depth x marks out marks'' out'') (sym (take_more c i d l)) (absorbs_both vs lv depth (take i c) (get_or c i d ∷ []) marks marks' marks'' out out' out'' a b)

pub marked_count-set : (marks : List Bool) (v : ℕ) → v < length marks → get_or marks v false ≡ false → marked_count (set marks v true) ≡ marked_count marks + 1
marked_count-set [] v l h = absurd (omega arith)
marked_count-set (true ∷ ms) zero l h = cc
marked_count-set (false ∷ ms) zero l h = omega arith
marked_count-set (true ∷ ms) (suc v) l h = omega (arith, marked_count-set ms v (omega arith) h)
marked_count-set (false ∷ ms) (suc v) l h = marked_count-set ms v (omega arith) h

pub marked_count-le : (marks : List Bool) → marked_count marks ≤ length marks
marked_count-le [] = omega arith
marked_count-le (true ∷ ms) = omega (arith, marked_count-le ms)
marked_count-le (false ∷ ms) = omega (arith, marked_count-le ms)

pub marked_count-clear : (marks : List Bool) (v : ℕ) → get_or marks v false ≡ true → marked_count (set marks v false) + 1 ≡ marked_count marks
marked_count-clear [] v h = cc
marked_count-clear (true ∷ ms) zero h = omega arith
marked_count-clear (false ∷ ms) zero h = cc
marked_count-clear (true ∷ ms) (suc v) h = omega (arith, marked_count-clear ms v h)
marked_count-clear (false ∷ ms) (suc v) h = marked_count-clear ms v h

-- one is marked where the count isn't 0
pub marked_one : (marks : List Bool) → 0 < marked_count marks → (v : ℕ) × (v < length marks) × (get_or marks v false ≡ true)
marked_one [] h = absurd (omega arith)
marked_one (true ∷ ms) h = (0, omega arith, refl)
marked_one (false ∷ ms) h = let r = marked_one ms h in (suc r.0, omega (arith, r.1), r.2)

pub marked_none : (marks : List Bool) (v : ℕ) → marked_count marks ≡ 0 → get_or marks v false ≡ true → ⊥
marked_none marks v h k = omega (arith, marked_count-clear marks v k)

pub marked_count-lt : (marks : List Bool) (v : ℕ) → v < length marks → get_or marks v false ≡ false → marked_count marks < length marks
marked_count-lt marks v l h = omega (arith, marked_count-set marks v l h, marked_count-le (set marks v true), length-set marks v true)

pub ruleset marks = (absorbs_true, absorbs_marked, absorbs_put, absorbs_low, absorbs_mark, absorbs_out, kept_out, kept_there, marked_count-set, marked_count-lt)

pub ruleset absorptions = (absorbs_none, absorbs_more)
