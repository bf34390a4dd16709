-- How the trail goes back.
use Rattle.std.proofs.Common.{◌≡◌, ◌≢◌, ◌⊎◌, inl, inr, Bool, true, false, not, ℕ, zero, suc, ◌+◌, ◌-◌, ◌<◌, ◌≤◌, ◌++◌, List, [], ◌∷◌, length, get_or, set, take, refl, sym, ◌∙◌, ap, arith, subst, Option, Some, None}
use Rattle.std.specs.Prelude.{Contains}
use Rattle.std.proofs.lemmas.List.{take_at, length_push, length-set, length-take-le, get_or-take, take-take, get_or_append_left, get_or_push}
use Rattle.std.proofs.lemmas.List.Elements.{Contains-push_cases}
use Rattle.std.proofs.lemmas.Bool.{cases_eq, cases_lt}
use Rattle.sk_clause.specs.declared.lit.Lit.{Lit}
use Rattle.sk_clause.specs.Values.{Holds, Fails, IsOpen}
use Rattle.sk_clause.proofs.ValueLemmas.{Holds-cleared_other, Holds-cleared_same, Holds-within, open_count-cleared, negated_holds, fails_from_negated, open_unless}
use Rattle.sk_clause.specs.Meaning.{negated}
use Rattle.sk_sat.specs.Analysis.{level_at, IsLesson}
use Rattle.sk_sat.proofs.ResolveLemmas.{place, place_in_front}
use Rattle.sk_sat.specs.Trail.{lit_at, Agrees, IsReason, IsTrailOf}
use Rattle.sk_sat.proofs.TrailLemmas.{lit_left, lit_last, reason_same}

pub agrees_pop : (vs : List (Option Bool)) (ls : List Lit) (l : Lit) → Agrees vs (ls ++ l ∷ []) → Agrees (set vs l.var None) ls
agrees_pop vs ls l a =
    let e : length (ls ++ l ∷ []) ≡ length ls + 1 = length_push ls l in
    let last : length ls < length (ls ++ l ∷ []) = omega arith in
    let lh : Holds vs l = subst (Holds vs) (lit_last ls l) (a.holds (length ls) last) in
    record {
      holds = λ i h. (
          let less : i < length (ls ++ l ∷ []) = omega arith in
          let other : (lit_at ls i).var ≢ l.var = λ same. a.distinct i (length ls) h last (ap (λ (m : Lit). m.var) (lit_left ls l i h) ∙ same ∙ ap (λ (m : Lit). m.var) (sym (lit_last ls l))) in
          Holds-cleared_other vs l.var (lit_at ls i) other (subst (Holds vs) (lit_left ls l i h) (a.holds i less)));
      covers = λ m h. (
          let k = Holds-cleared_same vs l.var m (Holds-within vs l lh) h in
          elim (Contains-push_cases ls l m (a.covers m k.1)) [ inl there ↦ there | inr same ↦ absurd (k.0 (ap (λ (x : Lit). x.var) (sym same))) ]);
      distinct = λ i k less h. (
          let i' : i < length ls = omega arith in
          let h' : k < length (ls ++ l ∷ []) = omega arith in
          rw (sym (lit_left ls l i i'), sym (lit_left ls l k h)) (a.distinct i k less h'));
      within = λ i h. (
          let h' : i < length (ls ++ l ∷ []) = omega arith in
          rw (sym (lit_left ls l i h), length-set vs l.var None) (a.within i h'));
      total = omega (arith, a.total, open_count-cleared vs l lh, length-set vs l.var None);
    }

pub agrees_pop_from : (vs : List (Option Bool)) (all ls : List Lit) (l : Lit) → all ≡ ls ++ l ∷ [] → Agrees vs all → Agrees (set vs l.var None) ls
agrees_pop_from vs all ls l e a = agrees_pop vs ls l (subst (Agrees vs) e a)

pub ruleset clears = (agrees_pop_from, agrees_pop)

pub trail_cut : (known : List (List Lit)) (vs vs' : List (Option Bool)) (lv rs : List ℕ) (ls : List Lit) (lims : List ℕ) (j : ℕ)
    → IsTrailOf known vs lv rs ls lims → j < length lims → length vs' ≡ length vs → Agrees vs' (take (get_or lims j 0) ls)
    → IsTrailOf known vs' lv rs (take (get_or lims j 0) ls) (take j lims)
trail_cut known vs vs' lv rs ls lims j t h same a =
    let b = get_or lims j 0 in
    let bl : b < length ls = t.leveled.inside j h in
    let len : length (take b ls) ≡ b = length-take-le b ls (omega arith) in
    let lim_len : length (take j lims) ≡ j = length-take-le j lims (omega arith) in
    record {
      level_long = t.level_long ∙ sym same;
      reason_long = t.reason_long ∙ sym same;
      agrees = a;
      leveled = record {
        inside = λ k l. (let kj : k < j = omega arith in rw (get_or-take j lims k 0 kj, len) (t.leveled.rises k j kj h));
        rises = λ i k less l. (let kj : k < j = omega arith in let ij : i < j = omega arith in rw (get_or-take j lims i 0 ij, get_or-take j lims k 0 kj) (t.leveled.rises i k less (omega arith)));
        low = λ i k il kl le. (let kj : k < j = omega arith in let ib : i < b = omega arith in
            rw (get_or-take j lims k 0 kj) (t.leveled.low i k (omega arith) (omega arith) (subst (λ (m : Lit). get_or lv m.var 0 ≤ k) (get_or-take b ls i _ ib) le)));
        high = λ i k il kl lt. (let kj : k < j = omega arith in let ib : i < b = omega arith in
            subst (λ (m : Lit). get_or lv m.var 0 ≤ k) (sym (get_or-take b ls i _ ib)) (t.leveled.high i k (omega arith) (omega arith) (subst (λ x. i < x) (get_or-take j lims k 0 kj) lt)));
        most = λ i il. (let ib : i < b = omega arith in
            subst (λ (m : Lit). get_or lv m.var 0 ≤ length (take j lims)) (sym (get_or-take b ls i _ ib)) (omega (arith, t.leveled.high i j (omega arith) h ib)));
      };
      reasoned = λ i il other. (let ib : i < b = omega arith in
          reason_same known _ _ _ _ _ _
          (ap (λ (m : Lit). get_or rs m.var 0) (sym (get_or-take b ls i _ ib)))
          (sym (take-take i b ls (omega arith)))
          (sym (get_or-take b ls i _ ib))
          (t.reasoned i (omega arith) (λ k kl e. elim (cases_lt k j) [
            | inl kj ↦ other k (omega arith) (get_or-take j lims k 0 kj ∙ e)
            | inr jk ↦ (elim (cases_eq k j) [
              | inl eq ↦ (let z : get_or lims k 0 ≡ b = ap (λ x. get_or lims x 0) eq in omega arith)
              | inr ne ↦ (let z = t.leveled.rises j k (omega arith) kl in omega arith)
            ])
          ])));
    }

-- a front of a front
pub front_pop : {X : Type 0} (all ls new : List X) (l : X) → ls ≡ take (length ls) all → ls ≡ new ++ l ∷ [] → new ≡ take (length new) all
front_pop all ls new l f e =
    let n : length new ≤ length ls = omega (arith, ap length e, length_push new l) in
    sym (take_at new (l ∷ []) (length new) refl) ∙ ap (take (length new)) (sym e) ∙ ap (take (length new)) f ∙ take-take (length new) (length ls) all n

-- what a slice of a whole vector leaves in it
pub written_back : {X : Type 0} (new old : List X) (n : ℕ) → length new ≡ n → take n (new ++ Rattle.std.proofs.Common.drop (length new) old) ≡ new
written_back new old n h = take_at new (Rattle.std.proofs.Common.drop (length new) old) n h

-- what is false no deeper stays false
pub kept_cut : (known : List (List Lit)) (vs vs' : List (Option Bool)) (lv rs : List ℕ) (ls : List Lit) (lims : List ℕ) (j : ℕ)
    → IsTrailOf known vs lv rs ls lims → j < length lims → Agrees vs' (take (get_or lims j 0) ls) → (m : Lit) → Fails vs m → get_or lv m.var 0 ≤ j → Fails vs' m
kept_cut known vs vs' lv rs ls lims j t h a m f le =
    let k = place ls (negated m) (t.agrees.covers (negated m) (negated_holds vs m f)) in
    let e : get_or lv (lit_at ls k.0).var 0 ≡ get_or lv m.var 0 = ap (λ (x : Lit). get_or lv x.var 0) k.2 in
    let below : k.0 < get_or lims j 0 = t.leveled.low k.0 j k.1 h (omega arith) in
    let bl : get_or lims j 0 < length ls = t.leveled.inside j h in
    let len : length (take (get_or lims j 0) ls) ≡ get_or lims j 0 = length-take-le (get_or lims j 0) ls (omega arith) in
    let there : Holds vs' (lit_at (take (get_or lims j 0) ls) k.0) = a.holds k.0 (omega arith) in
    fails_from_negated vs' m (subst (Holds vs') (get_or-take (get_or lims j 0) ls k.0 _ below ∙ k.2) there)

-- a literal whose negation stands deeper has no value after the cut
pub open_cut : (known : List (List Lit)) (vs vs' : List (Option Bool)) (lv rs : List ℕ) (ls : List Lit) (lims : List ℕ) (j : ℕ)
    → IsTrailOf known vs lv rs ls lims → j < length lims → Agrees vs' (take (get_or lims j 0) ls) → (m : Lit) → Fails vs m → j < get_or lv m.var 0 → IsOpen vs' m
open_cut known vs vs' lv rs ls lims j t h a m f gt = open_unless vs' m
    (λ holds. apart m holds refl)
    (λ fails. apart (negated m) (negated_holds vs' m fails) refl)
  where
    apart : (x : Lit) → Holds vs' x → x.var ≡ m.var → ⊥
    apart x holds e =
        let k = place ls (negated m) (t.agrees.covers (negated m) (negated_holds vs m f)) in
        let lk : get_or lv (lit_at ls k.0).var 0 ≡ get_or lv m.var 0 = ap (λ (y : Lit). get_or lv y.var 0) k.2 in
        let i = place_in_front ls (get_or lims j 0) x (let b = t.leveled.inside j h in omega arith) (a.covers x holds) in
        let li = t.leveled.high i.0 j i.2 h i.1 in
        let same : (lit_at ls i.0).var ≡ (lit_at ls k.0).var = ap (λ (y : Lit). y.var) i.3 ∙ e ∙ sym (ap (λ (y : Lit). y.var) k.2) in
        let ll : get_or lv (lit_at ls i.0).var 0 ≡ get_or lv (lit_at ls k.0).var 0 = ap (λ v. get_or lv v 0) same in
        omega arith

-- a clause more leaves the trail as it is
pub trail_more : (known : List (List Lit)) (c : List Lit) (vs : List (Option Bool)) (lv rs : List ℕ) (ls : List Lit) (lims : List ℕ) → IsTrailOf known vs lv rs ls lims → IsTrailOf (known ++ c ∷ []) vs lv rs ls lims
trail_more known c vs lv rs ls lims t = record {
  level_long = t.level_long;
  reason_long = t.reason_long;
  agrees = t.agrees;
  leveled = t.leveled;
  reasoned = λ i h other. (let r = t.reasoned i h other in
      let same : get_or (known ++ c ∷ []) (get_or rs (lit_at ls i).var 0) [] ≡ get_or known (get_or rs (lit_at ls i).var 0) [] = get_or_append_left known (c ∷ []) [] (get_or rs (lit_at ls i).var 0) r.there in
      record {
        there = omega (arith, r.there, length_push known c);
        has = subst (λ x. Contains x (lit_at ls i)) (sym same) r.has;
        others = λ m w o. r.others m (subst (λ x. Contains x m) same w) o;
      });
}

-- the lesson is the reason of its literal
pub lesson_reason : (known : List (List Lit)) (vs vs' : List (Option Bool)) (lv : List ℕ) (ls' : List Lit) (depth back : ℕ) (c : List Lit) (turn : Lit)
    → IsLesson known vs lv depth c turn back → Agrees vs' ls' → ((m : Lit) → Fails vs m → level_at lv m ≤ back → Fails vs' m) → IsReason (known ++ c ∷ []) (length known) ls' turn
lesson_reason known vs vs' lv ls' depth back c turn l a kept =
    let same : get_or (known ++ c ∷ []) (length known) [] ≡ c = get_or_push known c [] (length known) refl in
    record {
      there = omega (arith, length_push known c);
      has = subst (λ x. Contains x turn) (sym same) l.has;
      others = λ m w o. (let f = l.others m (subst (λ x. Contains x m) same w) o in a.covers (negated m) (negated_holds vs' m (kept m f.0 f.1)));
    }
