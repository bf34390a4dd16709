-- Why what a conflict teaches follows.
use Rattle.std.proofs.Common.{◌≡◌, ◌≢◌, inl, inr, Bool, true, false, ℕ, zero, suc, ◌<◌, ◌≤◌, List, [], length, get_or, set, take, sym, ◌∙◌, ap, arith, subst, Option}
use Rattle.std.specs.Prelude.{Contains}
use Rattle.std.proofs.lemmas.List.{get_or-set_same, get_or-set_other, length-take-le, get_or-take, get_or_default}
use Rattle.std.proofs.lemmas.List.Elements.{Contains-get_or}
use Rattle.std.proofs.lemmas.Bool.{cases_eq}
use Rattle.sk_clause.specs.declared.lit.Lit.{Lit}
use Rattle.sk_clause.specs.Meaning.{negated, Closure, denied, forced}
use Rattle.sk_clause.proofs.MeaningLemmas.{Contains-none}
use Rattle.sk_clause.specs.Values.{Holds, Fails}
use Rattle.sk_clause.proofs.ValueLemmas.{negated_holds, fails_from_negated, same_var_holds, not_fails_holds}
use Rattle.sk_sat.specs.Trail.{lit_at, IsReason, IsTrailOf}
use Rattle.sk_sat.specs.Analysis.{level_at, marked_count, IsCovered, Absorbs, IsFalsified, Pending, IsTurn, IsClean}
use Rattle.sk_sat.proofs.AnalysisLemmas.{marked_count-clear, marked_one, marked_none}

-- where a literal stands in a front of the trail
pub place_in_front : (ls : List Lit) (q : ℕ) (m : Lit) → q ≤ length ls → Contains (take q ls) m → (k : ℕ) × (k < q) × (k < length ls) × (lit_at ls k ≡ m)
place_in_front ls q m l h =
    let e = length-take-le q ls l in
    let k : h.0 < q = omega (arith, h.1) in
    let j : h.0 < length ls = omega arith in
    (h.0, k, j, get_or_default ls h.0 _ m j ∙ sym (get_or-take q ls h.0 m k) ∙ h.2)

pub place : (ls : List Lit) (m : Lit) → Contains ls m → (k : ℕ) × (k < length ls) × (lit_at ls k ≡ m)
place ls m h = (h.0, h.1, get_or_default ls h.0 _ m h.1 ∙ h.2)

module _ (known : List (List Lit)) (vs : List (Option Bool)) (lv rs : List ℕ) (ls : List Lit) (lims : List ℕ) (t : IsTrailOf known vs lv rs ls lims) where
  -- the other literals of a reason are false
  pub others_fail : (r q : ℕ) (l : Lit) → q ≤ length ls → IsReason known r (take q ls) l → (w : Lit) → Contains (get_or known r []) w → w ≢ l → Fails vs w
  others_fail r q l h why w within other =
      let k = place_in_front ls q (negated w) h (why.others w within other) in
      fails_from_negated vs w (subst (Holds vs) k.3 (t.agrees.holds k.0 k.2))

  -- what is true at level 0 is in each closure
  zero_closed : (c : List Lit) (n i : ℕ) → i < n → i < length ls → ((j : ℕ) → j < length lims → i < get_or lims j 0) → Closure known c (lit_at ls i)
  zero_closed c zero i less h low = absurd (omega arith)
  zero_closed c (suc n) i less h low =
      let why = t.reasoned i h (λ j k e. (let b = low j k in omega arith)) in
      forced (get_or known (get_or rs (lit_at ls i).var 0) []) (Contains-get_or known (get_or rs (lit_at ls i).var 0) [] why.there) why.has
      (λ w within other.
      let k = place_in_front ls i (negated w) (omega arith) (why.others w within other) in
      subst (Closure known c) k.3 (zero_closed c n k.0 (omega (arith, k.1)) k.2 (λ j l. omega (arith, k.1, low j l))))

  pub zero_closure : (c : List Lit) (m : Lit) → Fails vs m → level_at lv m ≡ 0 → Closure known c (negated m)
  zero_closure c m f z =
      let k = place ls (negated m) (t.agrees.covers (negated m) (negated_holds vs m f)) in
      let v : get_or lv (lit_at ls k.0).var 0 ≡ 0 = ap (λ (x : Lit). get_or lv x.var 0) k.2 ∙ z in
      subst (Closure known c) k.2 (zero_closed c (suc k.0) k.0 (omega arith) k.1 (λ j l. t.leveled.low k.0 j k.1 l (omega arith)))

  -- a false literal stands negated in the trail, no deeper than the last level
  pub fails_most : (m : Lit) → Fails vs m → level_at lv m ≤ length lims
  fails_most m f =
      let k = place ls (negated m) (t.agrees.covers (negated m) (negated_holds vs m f)) in
      let e : get_or lv (lit_at ls k.0).var 0 ≡ level_at lv m = ap (λ (x : Lit). get_or lv x.var 0) k.2 in
      omega (arith, t.leveled.most k.0 k.1)

  pub pending_begins : (i : ℕ) (marks marks' : List Bool) (out' : List Lit) → IsFalsified known vs i → ((v : ℕ) → get_or marks v false ≡ true → ⊥)
      → Absorbs vs lv (length lims) (get_or known i []) marks [] marks' out' → Pending known vs lv ls (length lims) (length ls) marks' out'
  pending_begins i marks marks' out' f none a = record {
    implied = λ c d. (get_or known i [], Contains-get_or known i [] f.there, λ m w. d m (f.each m w) (a.covers m (record { inside = w; fails = f.each m w })));
    placed = λ v h. elim (a.marked v h) [
      | inl before ↦ absurd (none v before)
      | inr now ↦ (let k = place ls (negated now.0) (t.agrees.covers (negated now.0) (negated_holds vs now.0 now.1.fails)) in (k.0, k.1, k.1, ap (λ (x : Lit). x.var) k.2 ∙ now.2))
    ];
    leveled = λ v h. elim (a.marked v h) [ inl before ↦ absurd (none v before) | inr now ↦ ap (λ x. get_or lv x 0) (sym now.2) ∙ now.3 ];
    outs = λ m h. elim (a.put m h) [ inl before ↦ absurd (Contains-none m before) | inr now ↦ (now.0.fails, (let o = now.1 in omega (arith, fails_most m now.0.fails))) ];
  }

  module _ (q : ℕ) (h : q < length ls) (marks : List Bool) (out : List Lit) (p : Pending known vs lv ls (length lims) (suc q) marks out) where
    pub pending_passes : get_or marks (lit_at ls q).var false ≡ false → Pending known vs lv ls (length lims) q marks out
    pending_passes free = record {
      implied = p.implied;
      placed = λ v m. (let k = p.placed v m in
          let other : k.0 ≢ q = λ e. (let x : get_or marks v false ≡ false = ap (λ y. get_or marks y false) (sym k.3 ∙ ap (λ i. (lit_at ls i).var) e) ∙ free in cc) in
          (k.0, omega (arith, k.1), k.2, k.3));
      leveled = p.leveled;
      outs = p.outs;
    }

    cleared : (v : ℕ) → get_or (set marks (lit_at ls q).var false) v false ≡ true → (v ≢ (lit_at ls q).var) × (get_or marks v false ≡ true)
    cleared v m = elim (cases_eq v (lit_at ls q).var) [
      | inl same ↦ absurd (no_longer same)
      | inr other ↦ (other, sym (get_or-set_other marks (lit_at ls q).var v false false other) ∙ m)
    ]
      where
        no_longer : v ≡ (lit_at ls q).var → ⊥
        no_longer same = elim (Rattle.std.proofs.lemmas.Bool.cases_lt (lit_at ls q).var (length marks)) [
          | inl within ↦ (let e = ap (λ i. get_or (set marks (lit_at ls q).var false) i false) same ∙ get_or-set_same marks (lit_at ls q).var false false within in cc)
          | inr past ↦ (let s : length (set marks (lit_at ls q).var false) ≤ v = omega (arith, Rattle.std.proofs.lemmas.List.length-set marks (lit_at ls q).var false) in let e = Rattle.std.proofs.lemmas.List.get_or_past (set marks (lit_at ls q).var false) v false s in cc)
        ]

    module _ (marked : get_or marks (lit_at ls q).var false ≡ true) where
      -- with another mark, it is no decision
      pub has_reason : 2 ≤ marked_count marks → IsReason known (get_or rs (lit_at ls q).var 0) (take q ls) (lit_at ls q)
      has_reason two =
          let c : 0 < marked_count (set marks (lit_at ls q).var false) = omega (arith, marked_count-clear marks (lit_at ls q).var marked) in
          let v = marked_one (set marks (lit_at ls q).var false) c in
          let w = cleared v.0 v.2 in
          let k = p.placed v.0 w.1 in
          let other : k.0 ≢ q = λ e. w.0 (sym k.3 ∙ ap (λ i. (lit_at ls i).var) e) in
          let deep : get_or lv (lit_at ls k.0).var 0 ≡ length lims = ap (λ x. get_or lv x 0) k.3 ∙ p.leveled v.0 w.1 in
          t.reasoned q h (λ j l e. before k.0 (omega (arith, k.1)) k.2 deep j l e)
        where
          before : (i : ℕ) → i < q → i < length ls → get_or lv (lit_at ls i).var 0 ≡ length lims → (j : ℕ) → j < length lims → get_or lims j 0 ≢ q
          before i less within deep j l e =
              let a : i < get_or lims j 0 = omega arith in
              omega (arith, t.leveled.high i j within l a)

      -- the literal is what the falseness of its negation says
      own : (m : Lit) → Fails vs m → m.var ≡ (lit_at ls q).var → negated m ≡ lit_at ls q
      own m f e = same_var_holds vs (lit_at ls q) (negated m) (t.agrees.holds q h) (negated_holds vs m f) e

      covered_left : (m : Lit) → m.var ≢ (lit_at ls q).var → IsCovered lv marks out m → IsCovered lv (set marks (lit_at ls q).var false) out m
      covered_left m other c = elim c [ inl a ↦ inl (get_or-set_other marks (lit_at ls q).var m.var false false other ∙ a) | inr b ↦ inr b ]

      pub pending_resolves : (marks' : List Bool) (out' : List Lit) → 2 ≤ marked_count marks
          → Absorbs vs lv (length lims) (get_or known (get_or rs (lit_at ls q).var 0) []) (set marks (lit_at ls q).var false) out marks' out'
          → Pending known vs lv ls (length lims) q marks' out'
      pending_resolves marks' out' two a =
          let r = get_or rs (lit_at ls q).var 0 in
          let why = has_reason two in
          record {
            implied = λ c d. p.implied c (λ m f cov. elim (cases_eq m.var (lit_at ls q).var) [
              | inl same ↦ subst (Closure known c) (sym (own m f same))
                  (forced (get_or known r []) (Contains-get_or known r [] why.there) why.has
                  (λ w within other. (let g = others_fail r q (lit_at ls q) (omega arith) why w within other in d w g (a.covers w (record { inside = within; fails = g })))))
              | inr other ↦ d m f (a.keeps m (covered_left m other cov))
            ]);
            placed = λ v m. elim (a.marked v m) [
              | inl before ↦ (let w = cleared v before in let k = p.placed v w.1 in
                  let other : k.0 ≢ q = λ e. w.0 (sym k.3 ∙ ap (λ i. (lit_at ls i).var) e) in (k.0, omega (arith, k.1), k.2, k.3))
              | inr now ↦ (let other : now.0 ≢ lit_at ls q = λ e. not_fails_holds vs now.0 now.1.fails (subst (Holds vs) (sym e) (t.agrees.holds q h)) in
                  let k = place_in_front ls q (negated now.0) (omega arith) (why.others now.0 now.1.inside other) in
                  (k.0, k.1, k.2, ap (λ (x : Lit). x.var) k.3 ∙ now.2))
            ];
            leveled = λ v m. elim (a.marked v m) [
              | inl before ↦ p.leveled v (cleared v before).1
              | inr now ↦ ap (λ x. get_or lv x 0) (sym now.2) ∙ now.3
            ];
            outs = λ m w. elim (a.put m w) [ inl before ↦ p.outs m before | inr now ↦ (now.0.fails, (let o = now.1 in omega (arith, fails_most m now.0.fails))) ];
          }

      pub turn_ends : marked_count marks ≡ 1 → IsTurn known vs lv (length lims) out (lit_at ls q)
      turn_ends one = record {
        holds = t.agrees.holds q h;
        deep = p.leveled (lit_at ls q).var marked;
        implied = λ c there all. p.implied c (λ m f cov. elim cov [
          | inl a ↦ elim (cases_eq m.var (lit_at ls q).var) [
            | inl same ↦ subst (Closure known c) (sym (own m f same)) (denied there)
            | inr other ↦ absurd (marked_none (set marks (lit_at ls q).var false) m.var (omega (arith, marked_count-clear marks (lit_at ls q).var marked)) (get_or-set_other marks (lit_at ls q).var m.var false false other ∙ a))
          ]
          | inr b ↦ elim b [
            | inl put ↦ all m put
            | inr low ↦ zero_closure c m f low
          ]
        ]);
        outs = p.outs;
      }

      -- and nothing is marked any more
      pub turn_clean : marked_count marks ≡ 1 → IsClean (set marks (lit_at ls q).var false)
      turn_clean one = record { none = λ v k. marked_none (set marks (lit_at ls q).var false) v (omega (arith, marked_count-clear marks (lit_at ls q).var marked)) k }

  pub pending_not_over : (marks : List Bool) (out : List Lit) → Pending known vs lv ls (length lims) 0 marks out → 0 < marked_count marks → ⊥
  pending_not_over marks out p some = let v = marked_one marks some in omega (arith, (p.placed v.0 v.2).1)
