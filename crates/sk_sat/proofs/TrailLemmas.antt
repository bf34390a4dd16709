-- How the trail changes.
use Rattle.std.proofs.Common.{◌≡◌, ◌≢◌, inl, inr, Bool, ℕ, ◌+◌, ◌<◌, ◌≤◌, ◌++◌, List, [], ◌∷◌, length, get_or, set, take, refl, sym, ◌∙◌, ap, arith, subst, Option, below_more}
use Rattle.std.specs.Prelude.{Contains}
use Rattle.std.proofs.lemmas.List.{get_or_append_left, get_or_push, take-append-le, take_at, length_push, get_or-set_same, get_or-set_other, length-set}
use Rattle.std.proofs.lemmas.List.Elements.{Contains-push, Contains-append_left}
use Rattle.sk_clause.specs.declared.lit.Lit.{Lit}
use Rattle.sk_clause.specs.Values.{Holds, IsOpen, assigned}
use Rattle.sk_clause.proofs.ValueLemmas.{Holds-assigned_cases, Holds-assigned_kept, Holds-assigned_own, length-assigned, open_var_other, open_count-assigned_one}
use Rattle.sk_sat.specs.Trail.{lit_at, Agrees, IsLeveled, IsReason, IsTrailOf}

pub lit_left : (ls : List Lit) (l : Lit) (i : ℕ) → i < length ls → lit_at (ls ++ l ∷ []) i ≡ lit_at ls i
lit_left ls l i h = get_or_append_left ls (l ∷ []) _ i h

pub lit_last : (ls : List Lit) (l : Lit) → lit_at (ls ++ l ∷ []) (length ls) ≡ l
lit_last ls l = get_or_push ls l _ (length ls) refl

-- what holds below the last and at the last holds of all
pub each_push : {X : Type 0} (ls : List X) (l : X) (P : ℕ → Type 0) → ((i : ℕ) → i < length ls → P i) → P (length ls) → (i : ℕ) → i < length (ls ++ l ∷ []) → P i
each_push ls l P below last i h = below_more P (length ls) below last i (let e = length_push ls l in omega arith)

module _ (vs : List (Option Bool)) (ls : List Lit) (l : Lit) (a : Agrees vs ls) (vacant : IsOpen vs l) (var : l.var < length vs) where
  pub other_var : (i : ℕ) → i < length ls → (lit_at ls i).var ≢ l.var
  other_var i h = open_var_other vs l (lit_at ls i) vacant (a.holds i h)

  pub agrees_push : Agrees (assigned vs l) (ls ++ l ∷ [])
  agrees_push = record {
    holds = each_push ls l (λ i. Holds (assigned vs l) (lit_at (ls ++ l ∷ []) i))
        (λ i h. subst (Holds (assigned vs l)) (sym (lit_left ls l i h)) (Holds-assigned_kept vs l (lit_at ls i) vacant (a.holds i h)))
        (subst (Holds (assigned vs l)) (sym (lit_last ls l)) (Holds-assigned_own vs l var));
    covers = λ m h. elim (Holds-assigned_cases vs l m var h) [
      | inl same ↦ subst (Contains (ls ++ l ∷ [])) (sym same) (Contains-push ls l)
      | inr before ↦ Contains-append_left ls (l ∷ []) m (a.covers m before)
    ];
    distinct = λ i k less h. each_push ls l (λ k. i < k → (lit_at (ls ++ l ∷ []) i).var ≢ (lit_at (ls ++ l ∷ []) k).var)
        (λ k h less. let j : i < length ls = omega arith in rw (lit_left ls l i j, lit_left ls l k h) (a.distinct i k less h))
        (λ less. rw (lit_left ls l i less, lit_last ls l) (other_var i less))
        k h less;
    within = each_push ls l (λ i. (lit_at (ls ++ l ∷ []) i).var < length (assigned vs l))
        (λ i h. rw (lit_left ls l i h, length-assigned vs l) (a.within i h))
        (rw (lit_last ls l, length-assigned vs l) var);
    total = omega (arith, length_push ls l, open_count-assigned_one vs l var vacant, length-assigned vs l, a.total);
  }

  module _ (lv : List ℕ) (long : length lv ≡ length vs) where
    pub level_left : (i x : ℕ) → i < length ls → get_or (set lv l.var x) (lit_at (ls ++ l ∷ []) i).var 0 ≡ get_or lv (lit_at ls i).var 0
    level_left i x h = ap (λ (m : Lit). get_or (set lv l.var x) m.var 0) (lit_left ls l i h) ∙ get_or-set_other lv l.var (lit_at ls i).var x 0 (other_var i h)

    pub level_last : (x : ℕ) → get_or (set lv l.var x) (lit_at (ls ++ l ∷ []) (length ls)).var 0 ≡ x
    level_last x = ap (λ (m : Lit). get_or (set lv l.var x) m.var 0) (lit_last ls l) ∙ get_or-set_same lv l.var x 0 (omega arith)

  module _ (lv : List ℕ) (long : length lv ≡ length vs) (lims : List ℕ) (v : IsLeveled lv ls lims) where
    pub leveled_push : IsLeveled (set lv l.var (length lims)) (ls ++ l ∷ []) lims
    leveled_push = record {
      inside = λ j h. omega (arith, v.inside j h, length_push ls l);
      rises = v.rises;
      low = λ i j h k. each_push ls l (λ i. get_or (set lv l.var (length lims)) (lit_at (ls ++ l ∷ []) i).var 0 ≤ j → i < get_or lims j 0)
          (λ i h le. v.low i j h k (rw (level_left lv long i (length lims) h) at le))
          (λ le. let e = level_last lv long (length lims) in omega arith) i h;
      high = λ i j h k. each_push ls l (λ i. i < get_or lims j 0 → get_or (set lv l.var (length lims)) (lit_at (ls ++ l ∷ []) i).var 0 ≤ j)
          (λ i h lt. rw (level_left lv long i (length lims) h) (v.high i j h k lt))
          (λ lt. absurd (omega (arith, v.inside j k))) i h;
      most = each_push ls l (λ i. get_or (set lv l.var (length lims)) (lit_at (ls ++ l ∷ []) i).var 0 ≤ length lims)
          (λ i h. rw (level_left lv long i (length lims) h) (v.most i h))
          (omega (arith, level_last lv long (length lims)));
    }

pub reason_same : (known : List (List Lit)) (r r' : ℕ) (b b' : List Lit) (l l' : Lit) → r ≡ r' → b ≡ b' → l ≡ l' → IsReason known r b l → IsReason known r' b' l'
reason_same known r r' b b' l l' e f g h = subst (λ m. IsReason known r' b' m) g (subst (λ c. IsReason known r' c l) f (subst (λ q. IsReason known q b l) e h))

pub trail_force : (known : List (List Lit)) (vs : List (Option Bool)) (lv rs : List ℕ) (ls : List Lit) (lims : List ℕ) (l : Lit) (r : ℕ)
    → IsTrailOf known vs lv rs ls lims → IsOpen vs l → l.var < length vs → IsReason known r ls l
    → IsTrailOf known (assigned vs l) (set lv l.var (length lims)) (set rs l.var r) (ls ++ l ∷ []) lims
trail_force known vs lv rs ls lims l r t vacant var why = record {
  level_long = length-set lv l.var (length lims) ∙ t.level_long ∙ sym (length-assigned vs l);
  reason_long = length-set rs l.var r ∙ t.reason_long ∙ sym (length-assigned vs l);
  agrees = agrees_push vs ls l t.agrees vacant var;
  leveled = leveled_push vs ls l t.agrees vacant var lv t.level_long lims t.leveled;
  reasoned = each_push ls l (λ i. ((j : ℕ) → j < length lims → get_or lims j 0 ≢ i) → IsReason known (get_or (set rs l.var r) (lit_at (ls ++ l ∷ []) i).var 0) (take i (ls ++ l ∷ [])) (lit_at (ls ++ l ∷ []) i))
      (λ i h other. reason_same known _ _ _ _ _ _
      (sym (level_left vs ls l t.agrees vacant var rs t.reason_long i r h))
      (sym (take-append-le i ls (l ∷ []) (omega arith)))
      (sym (lit_left ls l i h))
      (t.reasoned i h other))
      (λ other. reason_same known _ _ _ _ _ _
      (sym (level_last vs ls l t.agrees vacant var rs t.reason_long r))
      (sym (take_at ls (l ∷ []) (length ls) refl))
      (sym (lit_last ls l))
      why);
}

module _ (vs : List (Option Bool)) (ls : List Lit) (l : Lit) (a : Agrees vs ls) (vacant : IsOpen vs l) (var : l.var < length vs) (lv : List ℕ) (long : length lv ≡ length vs) (lims : List ℕ) (v : IsLeveled lv ls lims) where
  lim_left : (j : ℕ) → j < length lims → get_or (lims ++ length ls ∷ []) j 0 ≡ get_or lims j 0
  lim_left j h = get_or_append_left lims (length ls ∷ []) 0 j h

  lim_last : get_or (lims ++ length ls ∷ []) (length lims) 0 ≡ length ls
  lim_last = get_or_push lims (length ls) 0 (length lims) refl

  left : (i : ℕ) → i < length ls → get_or (set lv l.var (length lims + 1)) (lit_at (ls ++ l ∷ []) i).var 0 ≡ get_or lv (lit_at ls i).var 0
  left i h = level_left vs ls l a vacant var lv long i (length lims + 1) h

  last_one : get_or (set lv l.var (length lims + 1)) (lit_at (ls ++ l ∷ []) (length ls)).var 0 ≡ length lims + 1
  last_one = level_last vs ls l a vacant var lv long (length lims + 1)

  leveled_decide : IsLeveled (set lv l.var (length lims + 1)) (ls ++ l ∷ []) (lims ++ length ls ∷ [])
  leveled_decide = record {
    inside = each_push lims (length ls) (λ j. get_or (lims ++ length ls ∷ []) j 0 < length (ls ++ l ∷ []))
        (λ j h. omega (arith, lim_left j h, v.inside j h, length_push ls l))
        (omega (arith, lim_last, length_push ls l));
    rises = λ j k less h. each_push lims (length ls) (λ k. j < k → get_or (lims ++ length ls ∷ []) j 0 < get_or (lims ++ length ls ∷ []) k 0)
        (λ k h less. let i : j < length lims = omega arith in omega (arith, lim_left j i, lim_left k h, v.rises j k less h))
        (λ less. omega (arith, lim_left j less, lim_last, v.inside j less)) k h less;
    low = λ i j h k. each_push lims (length ls) (λ j. get_or (set lv l.var (length lims + 1)) (lit_at (ls ++ l ∷ []) i).var 0 ≤ j → i < get_or (lims ++ length ls ∷ []) j 0)
        (λ j k. each_push ls l (λ i. get_or (set lv l.var (length lims + 1)) (lit_at (ls ++ l ∷ []) i).var 0 ≤ j → i < get_or (lims ++ length ls ∷ []) j 0)
        (λ i h le. rw (lim_left j k) (v.low i j h k (rw (left i h) at le)))
        (λ le. absurd (omega (arith, last_one))) i h)
        (each_push ls l (λ i. get_or (set lv l.var (length lims + 1)) (lit_at (ls ++ l ∷ []) i).var 0 ≤ length lims → i < get_or (lims ++ length ls ∷ []) (length lims) 0)
        (λ i h le. omega (arith, lim_last))
        (λ le. absurd (omega (arith, last_one))) i h) j k;
    high = λ i j h k. each_push lims (length ls) (λ j. i < get_or (lims ++ length ls ∷ []) j 0 → get_or (set lv l.var (length lims + 1)) (lit_at (ls ++ l ∷ []) i).var 0 ≤ j)
        (λ j k. each_push ls l (λ i. i < get_or (lims ++ length ls ∷ []) j 0 → get_or (set lv l.var (length lims + 1)) (lit_at (ls ++ l ∷ []) i).var 0 ≤ j)
        (λ i h lt. rw (left i h) (v.high i j h k (rw (lim_left j k) at lt)))
        (λ lt. absurd (omega (arith, lim_left j k, v.inside j k))) i h)
        (each_push ls l (λ i. i < get_or (lims ++ length ls ∷ []) (length lims) 0 → get_or (set lv l.var (length lims + 1)) (lit_at (ls ++ l ∷ []) i).var 0 ≤ length lims)
        (λ i h lt. rw (left i h) (v.most i h))
        (λ lt. absurd (omega (arith, lim_last))) i h) j k;
    most = each_push ls l (λ i. get_or (set lv l.var (length lims + 1)) (lit_at (ls ++ l ∷ []) i).var 0 ≤ length (lims ++ length ls ∷ []))
        (λ i h. omega (arith, left i h, v.most i h, length_push lims (length ls)))
        (omega (arith, last_one, length_push lims (length ls)));
  }

pub trail_decide : (known : List (List Lit)) (vs : List (Option Bool)) (lv rs : List ℕ) (ls : List Lit) (lims : List ℕ) (l : Lit)
    → IsTrailOf known vs lv rs ls lims → IsOpen vs l → l.var < length vs
    → IsTrailOf known (assigned vs l) (set lv l.var (length lims + 1)) rs (ls ++ l ∷ []) (lims ++ length ls ∷ [])
trail_decide known vs lv rs ls lims l t vacant var = record {
  level_long = length-set lv l.var (length lims + 1) ∙ t.level_long ∙ sym (length-assigned vs l);
  reason_long = t.reason_long ∙ sym (length-assigned vs l);
  agrees = agrees_push vs ls l t.agrees vacant var;
  leveled = leveled_decide vs ls l t.agrees vacant var lv t.level_long lims t.leveled;
  reasoned = each_push ls l (λ i. ((j : ℕ) → j < length (lims ++ length ls ∷ []) → get_or (lims ++ length ls ∷ []) j 0 ≢ i) → IsReason known (get_or rs (lit_at (ls ++ l ∷ []) i).var 0) (take i (ls ++ l ∷ [])) (lit_at (ls ++ l ∷ []) i))
      (λ i h other. reason_same known _ _ _ _ _ _
      (ap (λ (m : Lit). get_or rs m.var 0) (sym (lit_left ls l i h)))
      (sym (take-append-le i ls (l ∷ []) (omega arith)))
      (sym (lit_left ls l i h))
      (t.reasoned i h (λ j k e. other j (let p = length_push lims (length ls) in omega arith) (get_or_append_left lims (length ls ∷ []) 0 j k ∙ e))))
      (λ other. absurd (other (length lims) (let p = length_push lims (length ls) in omega arith) (get_or_push lims (length ls) 0 (length lims) refl)));
}
