-- From a conflict to a round.
use Rattle.std.proofs.Common.{◌≡◌, inl, inr, Bool, true, ℕ, ◌+◌, ◌<◌, ◌≤◌, ◌++◌, List, [], ◌∷◌, length, get_or, take, refl, sym, ◌∙◌, ap, arith, subst}
use Rattle.std.specs.Prelude.{Contains}
use Rattle.std.proofs.lemmas.List.{length-take-le, get_or-take, take-take, take_all}
use Rattle.std.proofs.lemmas.List.Elements.{Contains-get_or}
use Rattle.sk_clause.specs.declared.lit.Lit.{Lit}
use Rattle.sk_clause.specs.Meaning.{Falsifies}
use Rattle.sk_clause.specs.Problem.{AreWithin}
use Rattle.sk_sat.specs.declared.trail.Trail.{Trail}
use Rattle.sk_sat.specs.declared.round.Round.{Round}
use Rattle.sk_sat.specs.declared.round.Round.TheVariants.{Learnt, Moved, Full, Refuted}
use Rattle.sk_sat.specs.declared.settle.Step.{Step}
use Rattle.sk_sat.specs.declared.settle.Step.TheVariants.{Learnt as Teaches, Forced, Refuted as Ends, Again}
use Rattle.sk_sat.specs.Trail.{IsTrail, IsBack, Extends, progress}
use Rattle.sk_sat.specs.Analysis.{level_at, IsFalsified}
use Rattle.sk_sat.specs.Round.{Adds, IsDeep, StepsBack, Learns, IsCut, IsStep, GoesOn, IsRound, IsConflictDepth, IsUnlike}
use Rattle.sk_sat.proofs.ResolveLemmas.{zero_closure, fails_most}
use Rattle.sk_sat.proofs.NumberLemmas.{Rises, rises_from, rises_long, number_back, number_grows, number_decide}

pub conflict_depth : (known : List (List Lit)) (t : Trail) (i depth : ℕ) → IsTrail known t → IsFalsified known t.values.items i
    → ((m : Lit) → Contains (get_or known i []) m → level_at t.level.items m ≤ depth)
    → (0 < depth → (m : Lit) × Contains (get_or known i []) m × (level_at t.level.items m ≡ depth)) → IsConflictDepth known t i depth
conflict_depth known t i depth h f most some = record {
  most = most;
  inside = elim (Rattle.std.proofs.lemmas.Bool.cases_lt 0 depth) [
    | inl pos ↦ (let r = some pos in let e = r.2 in let b = fails_most _ _ _ _ _ _ h r.0 (f.each r.0 r.1) in omega arith)
    | inr z ↦ omega arith
  ];
  deep = λ pos. record { one = some pos };
}

pub ruleset depths = (conflict_depth)

pub refuted_by : (known : List (List Lit)) (t : Trail) (i depth : ℕ) → IsTrail known t → IsFalsified known t.values.items i → IsConflictDepth known t i depth → depth ≡ 0 → Falsifies known []
refuted_by known t i depth h f d z = (get_or known i [], Contains-get_or known i [] f.there, λ m w. zero_closure _ _ _ _ _ _ h [] m (f.each m w) (let b = d.most m w in omega arith))

pub trail_rises : (known : List (List Lit)) (t : Trail) → IsTrail known t → Rises 0 t.lims.items (length t.lits.items)
trail_rises known t h = rises_from 0 t.lims.items (length t.lits.items) (omega arith) (λ j l. (omega arith, h.leveled.inside j l)) h.leveled.rises

-- the number grows
pub steps_go_on : (known known' : List (List Lit)) (old new : Trail) → IsTrail known old → IsTrail known' new → StepsBack old new → GoesOn known' old new
steps_go_on known known' old new h t s = record {
  trail = t;
  long = s.long;
  more =
      let n = length old.values.items in
      let r = trail_rises known old h in
      let a : length old.lits.items < n + 1 = omega (arith, h.agrees.total) in
      let b : length old.lims.items ≤ n = omega (arith, rises_long 0 old.lims.items (length old.lits.items) r, h.agrees.total) in
      rw (s.long, s.lims, s.lits) (number_back (n + 1) n 0 old.lims.items (length old.lits.items) s.back a r b s.less);
}

pub cut_same : (t : Trail) → IsCut t t
cut_same t = record { depth = length t.lims.items; inside = omega arith; lims = sym (take_all (length t.lims.items) t.lims.items (omega arith)); long = refl }

pub cut_back : (t u : Trail) (depth : ℕ) → IsBack depth t u → depth ≤ length t.lims.items → IsCut t u
cut_back t u depth b h = record { depth = depth; inside = h; lims = b.lims; long = b.long }

pub cut_long : (t u : Trail) (c : IsCut t u) → length u.lims.items ≡ c.depth
cut_long t u c = ap length c.lims ∙ length-take-le c.depth t.lims.items c.inside

pub cut_more : (a b c : Trail) → IsCut a b → IsCut b c → IsCut a c
cut_more a b c x y =
    let long = cut_long a b x in
    let less : y.depth ≤ x.depth = omega (arith, y.inside, long) in
    record {
      depth = y.depth;
      inside = omega (arith, x.inside);
      lims = y.lims ∙ ap (take y.depth) x.lims ∙ take-take y.depth x.depth a.lims.items less;
      long = y.long ∙ x.long;
    }

pub steps_cut : (t u new : Trail) → IsCut t u → StepsBack u new → StepsBack t new
steps_cut t u new c s =
    let long = cut_long t u c in
    let less : s.back < c.depth = omega (arith, s.less, long) in
    record {
      back = s.back;
      less = omega (arith, c.inside);
      lims = s.lims ∙ ap (take s.back) c.lims ∙ take-take s.back c.depth t.lims.items (omega arith);
      lits = s.lits ∙ ap (λ n. n + 1) (ap (λ x. get_or x s.back 0) c.lims ∙ get_or-take c.depth t.lims.items s.back 0 less);
      long = s.long ∙ c.long;
    }

-- what a step does after going back is what the whole does
pub step_cut : (strict : Bool) (known known' fresh fresh' : List (List Lit)) (t u new : Trail) (s : Step) → IsCut t u → IsStep strict known known' fresh fresh' u new s → IsStep strict known known' fresh fresh' t new s
step_cut strict known known' fresh fresh' t u new Teaches c h = record {
  clause = h.clause;
  adds = subst (λ n. Adds known known' fresh fresh' n h.clause) c.long h.adds;
  unlike = h.unlike;
  trail = h.trail;
  steps = steps_cut t u new c h.steps;
}
step_cut strict known known' fresh fresh' t u new Forced c h = (h.0, h.1, record { trail = h.2.trail; steps = steps_cut t u new c h.2.steps })
step_cut strict known known' fresh fresh' t u new Ends c h = (h.0, h.1, h.2, record { trail = h.3.trail; long = h.3.long ∙ c.long })
step_cut strict known known' fresh fresh' t u new (Again j) c h = (
  h.0,
  h.1,
  record {
    trail = h.2.trail;
    conflict = h.2.conflict;
    cut = cut_more t u new c h.2.cut;
    less = (let long = cut_long t u c in omega (arith, h.2.less, c.inside, long));
  },
)

-- where a run of conflicts is
pub record Settles (known known' fresh fresh' : List (List Lit)) (old now : Trail) (i : ℕ) : Type 0 where
  pub same : known' ≡ known
  pub same_fresh : fresh' ≡ fresh
  pub trail : IsTrail known now
  pub conflict : IsFalsified known now.values.items i
  pub cut : IsCut old now

pub settles_begin : (known fresh : List (List Lit)) (t : Trail) (i : ℕ) → IsTrail known t → IsFalsified known t.values.items i → Settles known known fresh fresh t t i
settles_begin known fresh t i h f = record { same = refl; same_fresh = refl; trail = h; conflict = f; cut = cut_same t }

pub settles_again : (strict : Bool) (known known' known'' fresh fresh' fresh'' : List (List Lit)) (old now new : Trail) (i j : ℕ) → Settles known known' fresh fresh' old now i → IsStep strict known' known'' fresh' fresh'' now new (Again j) → Settles known known'' fresh fresh'' old new j
settles_again strict known known' known'' fresh fresh' fresh'' old now new i j s h = record {
  same = h.0 ∙ s.same;
  same_fresh = h.1 ∙ s.same_fresh;
  trail = subst (λ x. IsTrail x new) s.same h.2.trail;
  conflict = subst (λ x. IsFalsified x new.values.items j) s.same h.2.conflict;
  cut = cut_more old now new s.cut h.2.cut;
}

pub settles_end : (strict : Bool) (known known' known'' fresh fresh' fresh'' : List (List Lit)) (old now new : Trail) (i : ℕ) (r : Step) → Settles known known' fresh fresh' old now i → IsStep strict known' known'' fresh' fresh'' now new r → IsStep strict known known'' fresh fresh'' old new r
settles_end strict known known' known'' fresh fresh' fresh'' old now new i r s h =
    step_cut strict known known'' fresh fresh'' old now new r s.cut (subst (λ x. IsStep strict x known'' fresh fresh'' now new r) s.same (subst (λ y. IsStep strict known' known'' y fresh'' now new r) s.same_fresh h))

pub step_round : (strict : Bool) (known known' fresh fresh' : List (List Lit)) (old new : Trail) → IsTrail known old → Learns strict known known' fresh fresh' old new → ((c : List Lit) × Adds known known' fresh fresh' (length old.values.items) c × (strict ≡ true → IsUnlike known c)) × GoesOn known' old new
step_round strict known known' fresh fresh' old new h l = ((l.clause, l.adds, l.unlike), steps_go_on known known' old new h l.trail l.steps)

pub falsified_back : (known : List (List Lit)) (t u : Trail) (i depth : ℕ) → IsFalsified known t.values.items i → IsConflictDepth known t i depth → IsBack depth t u → IsFalsified known u.values.items i
falsified_back known t u i depth f d b = record { there = f.there; each = λ m w. b.kept m (f.each m w) (d.most m w) }

pub deep_back : (known : List (List Lit)) (t u : Trail) (i depth : ℕ) → IsConflictDepth known t i depth → 0 < depth → depth ≤ length t.lims.items → IsBack depth t u → IsDeep known u.level.items (length u.lims.items) i
deep_back known t u i depth d pos h b =
    let long : length u.lims.items ≡ depth = ap length b.lims ∙ length-take-le depth t.lims.items (omega arith) in
    rw (long, b.same_level) (d.deep pos)

pub within_back : (known : List (List Lit)) (t u : Trail) (depth : ℕ) → IsBack depth t u → AreWithin (length t.values.items) known → AreWithin (length u.values.items) known
within_back known t u depth b h = subst (λ n. AreWithin n known) (sym b.long) h

-- at the last level nothing changes
pub back_same : (t : Trail) (depth : ℕ) → length t.lims.items ≡ depth → IsBack depth t t
back_same t depth e = record { lims = sym (take_all depth t.lims.items (omega arith)); long = refl; same_level = refl; kept = λ m f le. f }

pub ruleset backs = (back_same)

pub ruleset settles = (refuted_by, falsified_back, deep_back, within_back, cut_back, step_cut)

pub ruleset resolutions = (step_round, steps_go_on)

extends_number : (t u : Trail) → Extends t u → progress t ≤ progress u
extends_number t u e = rw (e.long, e.lims) (number_grows (length t.values.items + 1) (length t.values.items) 0 t.lims.items (length t.lits.items) (length u.lits.items) e.lits)

pub decided_goes_on : (known : List (List Lit)) (t u new : Trail) → Extends t u → IsTrail known new → length new.values.items ≡ length u.values.items → length new.lits.items ≡ length u.lits.items + 1
    → new.lims.items ≡ u.lims.items ++ length u.lits.items ∷ [] → GoesOn known t new
decided_goes_on known t u new e h long lits lims = record {
  trail = h;
  long = long ∙ e.long;
  more = omega (
    arith,
    extends_number t u e,
    (let x : progress u < progress new = rw (long, lims, lits) (number_decide (length u.values.items + 1) (length u.values.items) 0 u.lims.items (length u.lits.items) (omega arith)) in x),
  );
}

-- what a round does after propagation is what the whole does
pub round_after : (strict : Bool) (known known' fresh fresh' : List (List Lit)) (t u new : Trail) (r : Round) → Extends t u → IsRound strict known known' fresh fresh' u new r → IsRound strict known known' fresh fresh' t new r
round_after strict known known' fresh fresh' t u new Learnt e h = ((h.0.0, subst (λ n. Adds known known' fresh fresh' n h.0.0) e.long h.0.1, h.0.2), record { trail = h.1.trail; long = h.1.long ∙ e.long; more = omega (arith, extends_number t u e, h.1.more) })
round_after strict known known' fresh fresh' t u new Moved e h = (h.0, h.1, record { trail = h.2.trail; long = h.2.long ∙ e.long; more = omega (arith, extends_number t u e, h.2.more) })
round_after strict known known' fresh fresh' t u new Full e h = (h.0, h.1, h.2, record { trail = h.3.trail; long = h.3.long ∙ e.long })
round_after strict known known' fresh fresh' t u new Refuted e h = (h.0, h.1, h.2, record { trail = h.3.trail; long = h.3.long ∙ e.long })

pub ruleset rounds = (decided_goes_on, round_after)
