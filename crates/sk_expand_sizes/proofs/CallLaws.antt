-- What is counted of a call: the work of its function, as many times as the call is made.
use Rattle.std.proofs.Common.{◌≡◌, ℕ, zero, suc, ◌*◌, ◌==◌, Bool, true, false, List, [], ◌∷◌, ◌++◌, Option, Some, None, refl, sym, ap, ◌∙◌, arith}
use Rattle.std.specs.Prelude.{nat_lt, count_by, slice_get, if◌then◌else◌}
use Rattle.sk_base.specs.declared.bounds.Bounds.{Bounds}
use Rattle.sk_prog.specs.declared.prog.Fun.{Fun}
use Rattle.sk_model.specs.Steps.{Measure, body_work, call_work}
use Rattle.sk_expand_sizes.specs.declared.tally.Tally.{Tally}
use Rattle.sk_expand_sizes.specs.declared.count.Due.{Due}
use Rattle.sk_expand_sizes.specs.declared.count.Count.{Count}
use Rattle.sk_expand_sizes.specs.Tally.{added, is_over}
use Rattle.sk_expand_sizes.specs.Count.{fun_counted}
use Rattle.sk_expand_sizes.specs.Calls.{Calls, each_called, entered, called}
use Rattle.sk_expand_sizes.proofs.Tallies.{added_over, added_twice, added_as, IsProper, proper_sum, over_is}
use Rattle.sk_expand_sizes.proofs.CountLaws.{by_steps, by_news, due_work, fun_adds}

-- A call adds to a tally the steps and the records that are said of its function, as many times as it is made.
pub record IsCall (call : Calls) (steps_of news_of : ℕ → ℕ) : Type 0 where
  pub adds : (f times : ℕ) (t : Tally) → IsProper t → call f times t ≡ added t (times * steps_of f) (times * news_of f)

-- nothing is added
none : (t : Tally) (times : ℕ) → IsProper t → t ≡ added t (times * 0) (times * 0)
none t times h = sym h.same ∙ added_as t 0 0 (times * 0) (times * 0) (omega arith) (omega arith)

module _ (turns : ℕ) (call : Calls) (steps_of news_of : ℕ → ℕ) (is : IsCall call steps_of news_of) where
  each_adds : (ds : List Due) (t : Tally) → IsProper t → each_called call ds t ≡ added t (due_work steps_of ds) (due_work news_of ds)
  each_adds [] t h = sym h.same
  each_adds (d ∷ ds) t h =
      let first : call d.callee d.times t ≡ added t (d.times * steps_of d.callee) (d.times * news_of d.callee) = is.adds d.callee d.times t h in
      ap (λ w. each_called call ds w) first
      ∙ each_adds ds (added t (d.times * steps_of d.callee) (d.times * news_of d.callee)) (proper_sum t (d.times * steps_of d.callee) (d.times * news_of d.callee))
      ∙ added_twice t (d.times * steps_of d.callee) (d.times * news_of d.callee) (due_work steps_of ds) (due_work news_of ds)

  entered_adds : (f : Option Fun) (times : ℕ) (t : Tally) → IsProper t → entered turns call f times t ≡ added t (times * body_work by_steps turns steps_of f) (times * body_work by_news turns news_of f)
  entered_adds None times t h = none t times h
  entered_adds (Some f) times t h =
      let start : Count = record { tally = t; due = [] } in
      let c : Count = fun_counted turns f times t in
      let counted = fun_adds turns steps_of news_of f.body times start in
      each_adds c.due c.tally (counted.proper h)
      ∙ counted.adds
      ∙ ap (λ w. added w (times * body_work by_steps turns steps_of (Some f)) (times * body_work by_news turns news_of (Some f))) h.same

module _ (bounds : Bounds) (funs : List Fun) where
  abbrev steps_with : ℕ → List ℕ → ℕ → ℕ
  steps_with left active f = call_work by_steps bounds funs left active f

  abbrev news_with : ℕ → List ℕ → ℕ → ℕ
  news_with left active f = call_work by_news bounds funs left active f

  abbrev is_free : List ℕ → ℕ → Bool
  is_free active f = nat_lt (count_by (λ g. g == f) active) bounds.inline_amnt

  no_calls_left : (measure : Measure) (active : List ℕ) (f : ℕ) → call_work measure bounds funs zero active f ≡ 0
  unfolding call_work
  no_calls_left measure active f = refl

  free_work : (measure : Measure) (left : ℕ) (active : List ℕ) (f : ℕ) → is_free active f ≡ true → call_work measure bounds funs (suc left) active f ≡ body_work measure bounds.unroll (call_work measure bounds funs left (active ++ f ∷ [])) (slice_get funs f)
  unfolding call_work
  free_work measure left active f e = ap (λ b. if b then body_work measure bounds.unroll (call_work measure bounds funs left (active ++ f ∷ [])) (slice_get funs f) else 0) e

  full_work : (measure : Measure) (left : ℕ) (active : List ℕ) (f : ℕ) → is_free active f ≡ false → call_work measure bounds funs (suc left) active f ≡ 0
  unfolding call_work
  full_work measure left active f e = ap (λ b. if b then body_work measure bounds.unroll (call_work measure bounds funs left (active ++ f ∷ [])) (slice_get funs f) else 0) e

  -- the cases of a call, in the code
  called_none : (active : List ℕ) (f times : ℕ) (t : Tally) → called bounds funs zero active f times t ≡ t
  unfolding called
  called_none active f times t = refl

  called_over : (left : ℕ) (active : List ℕ) (f times : ℕ) (t : Tally) → is_over t ≡ true → called bounds funs (suc left) active f times t ≡ t
  unfolding called
  called_over left active f times t e = ap (λ b. if b then t else if is_free active f then entered bounds.unroll (called bounds funs left (active ++ f ∷ [])) (slice_get funs f) times t else t) e

  called_full : (left : ℕ) (active : List ℕ) (f times : ℕ) (t : Tally) → is_over t ≡ false → is_free active f ≡ false → called bounds funs (suc left) active f times t ≡ t
  unfolding called
  called_full left active f times t e g =
      ap (λ b. if b then t else if is_free active f then entered bounds.unroll (called bounds funs left (active ++ f ∷ [])) (slice_get funs f) times t else t) e
      ∙ ap (λ b. if b then entered bounds.unroll (called bounds funs left (active ++ f ∷ [])) (slice_get funs f) times t else t) g

  called_free : (left : ℕ) (active : List ℕ) (f times : ℕ) (t : Tally) → is_over t ≡ false → is_free active f ≡ true → called bounds funs (suc left) active f times t ≡ entered bounds.unroll (called bounds funs left (active ++ f ∷ [])) (slice_get funs f) times t
  unfolding called
  called_free left active f times t e g =
      ap (λ b. if b then t else if is_free active f then entered bounds.unroll (called bounds funs left (active ++ f ∷ [])) (slice_get funs f) times t else t) e
      ∙ ap (λ b. if b then entered bounds.unroll (called bounds funs left (active ++ f ∷ [])) (slice_get funs f) times t else t) g

  module _ (left : ℕ) (active : List ℕ) (f : ℕ) (inner_is : IsCall (called bounds funs left (active ++ f ∷ [])) (steps_with left (active ++ f ∷ [])) (news_with left (active ++ f ∷ []))) where
    call_adds : (times : ℕ) (t : Tally) → IsProper t → (over : Bool) → is_over t ≡ over → (free : Bool) → is_free active f ≡ free → called bounds funs (suc left) active f times t ≡ added t (times * steps_with (suc left) active f) (times * news_with (suc left) active f)
    call_adds times t h true e free g =
        let x : ℕ = times * steps_with (suc left) active f in
        let y : ℕ = times * news_with (suc left) active f in
        called_over left active f times t e ∙ over_is t e ∙ sym (added_over x y) ∙ ap (λ w. added w x y) (sym (over_is t e))
    call_adds times t h false e false g =
        called_full left active f times t e g ∙ none t times h
        ∙ added_as t (times * 0) (times * 0) (times * steps_with (suc left) active f) (times * news_with (suc left) active f)
        (ap (λ n. times * n) (sym (full_work by_steps left active f g))) (ap (λ n. times * n) (sym (full_work by_news left active f g)))
    call_adds times t h false e true g =
        let inner : List ℕ = active ++ f ∷ [] in
        let s : ℕ = body_work by_steps bounds.unroll (steps_with left inner) (slice_get funs f) in
        let n : ℕ = body_work by_news bounds.unroll (news_with left inner) (slice_get funs f) in
        called_free left active f times t e g
        ∙ entered_adds bounds.unroll (called bounds funs left inner) (steps_with left inner) (news_with left inner) inner_is (slice_get funs f) times t h
        ∙ added_as t (times * s) (times * n) (times * steps_with (suc left) active f) (times * news_with (suc left) active f)
        (ap (λ k. times * k) (sym (free_work by_steps left active f g))) (ap (λ k. times * k) (sym (free_work by_news left active f g)))

  pub calls_add : (left : ℕ) (active : List ℕ) → IsCall (called bounds funs left active) (steps_with left active) (news_with left active)
  calls_add zero active = record {
    adds = λ f times t h.
        called_none active f times t ∙ none t times h
        ∙ added_as t (times * 0) (times * 0) (times * steps_with zero active f) (times * news_with zero active f)
        (ap (λ n. times * n) (sym (no_calls_left by_steps active f))) (ap (λ n. times * n) (sym (no_calls_left by_news active f)));
  }
  calls_add (suc left) active = record {
    adds = λ f times t h. call_adds left active f (calls_add left (active ++ f ∷ [])) times t h (is_over t) refl (is_free active f) refl;
  }
