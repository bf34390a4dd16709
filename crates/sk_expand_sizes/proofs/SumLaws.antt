-- What the sum of all obligations is: the steps of all, and the greatest number of records of one.
use Rattle.std.proofs.Common.{◌≡◌, ℕ, ◌+◌, ◌*◌, ◌<◌, ◌≤◌, Bool, true, false, List, [], ◌∷◌, ◌++◌, map, refl, sym, ap, subst, ◌∙◌, arith}
use Rattle.std.specs.Prelude.{nat_lt, min, max}
use Rattle.std.proofs.lemmas.Bool.{ltb-true, ltb-false}
use Rattle.sk_base.specs.declared.bounds.Bounds.{Bounds}
use Rattle.sk_prog.specs.declared.prog.Fun.{Fun}
use Rattle.sk_model.specs.declared.expanded.Expanded.{Expanded}
use Rattle.sk_model.specs.declared.expanded.Obligation.{Obligation}
use Rattle.sk_model.specs.declared.expanded.Obligation.TheVariants as obligation
use Rattle.sk_model.specs.Parts.{total}
use Rattle.sk_model.specs.Slots.{greatest}
use Rattle.sk_model.specs.Obligations.{obligations_from}
use Rattle.sk_model.specs.Limits.{most_steps, most_news}
use Rattle.sk_model.specs.Steps.{obligation_work, steps}
use Rattle.sk_model.specs.News.{news}
use Rattle.sk_expand_sizes.specs.declared.tally.Tally.{Tally}
use Rattle.sk_expand_sizes.specs.declared.tally.Tally.TheVariants as tally
use Rattle.sk_expand_sizes.specs.declared.entry.Sum.{Sum}
use Rattle.sk_expand_sizes.specs.Tally.{added, begun, news_in, too_many_news}
use Rattle.sk_expand_sizes.specs.Sums.{no_sum, run_counted, obligation_counted, with_one, all_summed}
use Rattle.sk_expand_sizes.specs.Sizes.{IsSizesOf}
use Rattle.sk_expand_sizes.proofs.Tallies.{added_over, added_past, added_within, added_twice, added_as, IsProper, proper_sum, proper_begun}
use Rattle.sk_expand_sizes.proofs.CountLaws.{by_steps, by_news}
use Rattle.sk_expand_sizes.proofs.CallLaws.{calls_add}

pub summed_both : (bounds : Bounds) (funs : List Fun) (os ps : List Obligation) (s : Sum) → all_summed bounds funs (os ++ ps) s ≡ all_summed bounds funs ps (all_summed bounds funs os s)
summed_both bounds funs [] ps s = refl
summed_both bounds funs (o ∷ os) ps s = summed_both bounds funs os ps (with_one bounds funs o s)

-- What a tally and the most records so far tell of so many steps in all, and of the greatest number of records.
abbrev Tells : Tally → ℕ → ℕ → ℕ → Type 0
Tells tally.Over most s n = most_steps < s
Tells (tally.Within a b) most s n = (a ≡ s) × (a ≤ most_steps) × (most ≡ min n too_many_news)

record Sums (sum : Sum) (s n : ℕ) : Type 0 where
  tells : Tells sum.tally sum.most s n
  proper : IsProper sum.tally

same : (sum : Sum) (s n s' n' : ℕ) → s ≡ s' → n ≡ n' → Sums sum s n → Sums sum s' n'
same sum s n s' n' e f h = subst (λ (k : ℕ). Sums sum s' k) f (subst (λ (k : ℕ). Sums sum k n) e h)

-- with one more obligation of so many steps and records
one_told : (t : Tally) (most s n x y : ℕ) → Tells t most s n → Tells (added (begun t) x y) (max most (news_in (added (begun t) x y))) (s + x) (max n y)
one_told tally.Over most s n x y h =
    let more : most_steps < s + x = omega arith in
    subst (λ (t : Tally). Tells t (max most (news_in t)) (s + x) (max n y)) (sym (added_over x y)) more
one_told (tally.Within a b) most s n x y h = told (nat_lt most_steps (a + x)) refl
  where
    told : (v : Bool) → nat_lt most_steps (a + x) ≡ v → Tells (added (tally.Within a 0) x y) (max most (news_in (added (tally.Within a 0) x y))) (s + x) (max n y)
    told true e =
        let over : most_steps < a + x = ltb-true most_steps (a + x) e in
        let more : most_steps < s + x = omega (arith, h.0) in
        subst (λ (t : Tally). Tells t (max most (news_in t)) (s + x) (max n y)) (sym (added_past a 0 x y over)) more
    told false e =
        let few : a + x ≤ most_steps = ltb-false most_steps (a + x) e in
        let sum : a + x ≡ s + x = omega (arith, h.0) in
        let most_is : max most (min (0 + y) too_many_news) ≡ min (max n y) too_many_news = omega (arith, h.2) in
        subst (λ (t : Tally). Tells t (max most (news_in t)) (s + x) (max n y)) (sym (added_within a 0 x y few)) (sum, few, most_is)

module _ (bounds : Bounds) (funs : List Fun) where
  abbrev steps_of : Obligation → ℕ
  steps_of = obligation_work by_steps bounds funs

  abbrev news_of : Obligation → ℕ
  news_of = obligation_work by_news bounds funs

  run_adds : (f : ℕ) (t : Tally) → IsProper t → run_counted bounds funs f t ≡ added t (steps_of (obligation.Harness (record { index = f }))) (news_of (obligation.Harness (record { index = f })))
  run_adds f t h =
      let s : ℕ = steps_of (obligation.Harness (record { index = f })) in
      let n : ℕ = news_of (obligation.Harness (record { index = f })) in
      (calls_add bounds funs 128 []).adds f 1 t h ∙ added_as t (1 * s) (1 * n) s n (omega arith) (omega arith)

  obligation_adds : (o : Obligation) (t : Tally) → IsProper t → obligation_counted bounds funs o t ≡ added t (steps_of o) (news_of o)
  obligation_adds (obligation.Harness f) t h = run_adds f.index t h
  obligation_adds (obligation.Implements f g) t h =
      let s : ℕ = steps_of (obligation.Harness f) in
      let n : ℕ = news_of (obligation.Harness f) in
      let s' : ℕ = steps_of (obligation.Harness g) in
      let n' : ℕ = news_of (obligation.Harness g) in
      ap (λ w. run_counted bounds funs g.index w) (run_adds f.index t h)
      ∙ run_adds g.index (added t s n) (proper_sum t s n)
      ∙ added_twice t s n s' n'

  one_sums : (o : Obligation) (sum : Sum) (s n : ℕ) → Sums sum s n → Sums (with_one bounds funs o sum) (s + steps_of o) (max n (news_of o))
  one_sums o sum s n h =
      let is = obligation_adds o (begun sum.tally) (proper_begun sum.tally h.proper) in
      let t : Tally = added (begun sum.tally) (steps_of o) (news_of o) in
      record {
        tells = subst (λ (w : Tally). Tells w (max sum.most (news_in w)) (s + steps_of o) (max n (news_of o))) (sym is) (one_told sum.tally sum.most s n (steps_of o) (news_of o) h.tells);
        proper = subst (λ (w : Tally). IsProper w) (sym is) (proper_sum (begun sum.tally) (steps_of o) (news_of o));
      }

  all_sums : (os : List Obligation) (sum : Sum) (s n : ℕ) → Sums sum s n → Sums (all_summed bounds funs os sum) (s + total (map steps_of os)) (max n (greatest (map news_of os)))
  all_sums [] sum s n h = same sum s n (s + 0) (max n 0) (omega arith) (omega arith) h
  all_sums (o ∷ os) sum s n h = same _ _ _ (s + (steps_of o + total (map steps_of os))) (max n (max (news_of o) (greatest (map news_of os)))) (omega arith) (omega arith) (all_sums os (with_one bounds funs o sum) (s + steps_of o) (max n (news_of o)) (one_sums o sum s n h))

  none_sums : Sums no_sum 0 0
  none_sums = record { tells = (refl, omega arith, refl); proper = record { same = added_within 0 0 0 0 (omega arith) } }

-- what the sum of all obligations of a program tells
module _ (bounds : Bounds) (e : Expanded) (sum : Sum) (is : sum ≡ all_summed bounds e.prog.funs (obligations_from 0 e.prog.funs) no_sum) where
  whole : Tells sum.tally sum.most (steps bounds e) (news bounds e)
  whole =
      let s : ℕ = steps bounds e in
      let n : ℕ = news bounds e in
      let all : Sum = all_summed bounds e.prog.funs (obligations_from 0 e.prog.funs) no_sum in
      let sums : Sums all s n = same all (0 + s) (max 0 n) s n (omega arith) (omega arith) (all_sums bounds e.prog.funs (obligations_from 0 e.prog.funs) no_sum 0 0 (none_sums bounds e.prog.funs)) in
      subst (λ (z : Sum). Tells z.tally z.most s n) (sym is) sums.tells

  pub too_many_steps : sum.tally ≡ tally.Over → most_steps < steps bounds e
  too_many_steps over = subst (λ (t : Tally). Tells t sum.most (steps bounds e) (news bounds e)) over whole

  within : (a b : ℕ) → sum.tally ≡ tally.Within a b → Tells (tally.Within a b) sum.most (steps bounds e) (news bounds e)
  within a b few = subst (λ (t : Tally). Tells t sum.most (steps bounds e) (news bounds e)) few whole

  pub too_many_records : (a b : ℕ) → sum.tally ≡ tally.Within a b → most_news < sum.most → (steps bounds e ≤ most_steps) × (most_news < news bounds e)
  too_many_records a b few h =
      let w = within a b few in
      (omega (arith, w.0, w.1), omega (arith, w.2))

  pub sizes_found : (a b : ℕ) → sum.tally ≡ tally.Within a b → sum.most ≤ most_news → IsSizesOf bounds e (record { steps = a; news = sum.most })
  sizes_found a b few h =
      let w = within a b few in
      record {
        steps_are = w.0;
        news_are = omega (arith, w.2);
        steps_fit = omega (arith, w.0, w.1);
        news_fit = omega (arith, w.2);
      }

pub ruleset answers = (too_many_steps, too_many_records, sizes_found)
