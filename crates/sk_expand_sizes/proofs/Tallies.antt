-- Laws of tallies.
use Rattle.std.proofs.Common.{◌≡◌, ℕ, ◌+◌, ◌<◌, ◌≤◌, Bool, true, false, refl, sym, ap, ◌∙◌, arith}
use Rattle.std.specs.Prelude.{nat_lt, min, if◌then◌else◌}
use Rattle.std.proofs.lemmas.Bool.{lt-ltb, le-ltb, ltb-true, ltb-false}
use Rattle.sk_model.specs.Limits.{most_steps}
use Rattle.sk_expand_sizes.specs.declared.tally.Tally.{Tally}
use Rattle.sk_expand_sizes.specs.declared.tally.Tally.TheVariants as tally
use Rattle.sk_expand_sizes.specs.Tally.{added, begun, is_over, too_many_news}

pub added_over : (steps news : ℕ) → added tally.Over steps news ≡ tally.Over
unfolding added
added_over steps news = refl

-- where there are too many
pub added_past : (before made steps news : ℕ) → most_steps < before + steps → added (tally.Within before made) steps news ≡ tally.Over
unfolding added
added_past before made steps news h = ap (λ b. if b then tally.Over else tally.Within (before + steps) (min (made + news) too_many_news)) (lt-ltb most_steps (before + steps) h)

-- where there are not
pub added_within : (before made steps news : ℕ) → before + steps ≤ most_steps → added (tally.Within before made) steps news ≡ tally.Within (before + steps) (min (made + news) too_many_news)
unfolding added
added_within before made steps news h = ap (λ b. if b then tally.Over else tally.Within (before + steps) (min (made + news) too_many_news)) (le-ltb most_steps (before + steps) h)

pub ruleset stops = (added_over, added_past, added_within)

over_differs : is_over tally.Over ≡ false → ⊥
over_differs h = cc

-- where there are not too many steps, each number of steps that was added is small
pub steps_are_few : (t : Tally) (steps news : ℕ) → is_over (added t steps news) ≡ false → steps ≤ most_steps
steps_are_few tally.Over steps news h = absurd (over_differs (sym (ap is_over (added_over steps news)) ∙ h))
steps_are_few (tally.Within before made) steps news h = few (nat_lt most_steps (before + steps)) refl
  where
    few : (b : Bool) → nat_lt most_steps (before + steps) ≡ b → steps ≤ most_steps
    few true e = absurd (over_differs (sym (ap is_over (added_past before made steps news (ltb-true most_steps (before + steps) e))) ∙ h))
    few false e = omega (arith, ltb-false most_steps (before + steps) e)

-- one sum after another
pub added_twice : (t : Tally) (a b c d : ℕ) → added (added t a b) c d ≡ added t (a + c) (b + d)
added_twice tally.Over a b c d = ap (λ t. added t c d) (added_over a b) ∙ added_over c d ∙ sym (added_over (a + c) (b + d))
added_twice (tally.Within s n) a b c d = twice (nat_lt most_steps (s + a)) refl
  where
    same : (x y u v : ℕ) → x ≡ y → u ≡ v → tally.Within x u ≡ tally.Within y v
    same x y u v e f = ap (λ z. tally.Within z u) e ∙ ap (λ z. tally.Within y z) f

    last : s + a ≤ most_steps → (b' : Bool) → nat_lt most_steps (s + a + c) ≡ b' → added (tally.Within (s + a) (min (n + b) too_many_news)) c d ≡ added (tally.Within s n) (a + c) (b + d)
    last h true e =
        let more : most_steps < s + a + c = ltb-true most_steps (s + a + c) e in
        added_past (s + a) (min (n + b) too_many_news) c d more ∙ sym (added_past s n (a + c) (b + d) (omega arith))
    last h false e =
        let few : s + a + c ≤ most_steps = ltb-false most_steps (s + a + c) e in
        added_within (s + a) (min (n + b) too_many_news) c d few
        ∙ same (s + a + c) (s + (a + c)) (min (min (n + b) too_many_news + d) too_many_news) (min (n + (b + d)) too_many_news) (omega arith) (omega arith)
        ∙ sym (added_within s n (a + c) (b + d) (omega arith))

    twice : (b' : Bool) → nat_lt most_steps (s + a) ≡ b' → added (added (tally.Within s n) a b) c d ≡ added (tally.Within s n) (a + c) (b + d)
    twice true e =
        let more : most_steps < s + a = ltb-true most_steps (s + a) e in
        ap (λ t. added t c d) (added_past s n a b more) ∙ added_over c d ∙ sym (added_past s n (a + c) (b + d) (omega arith))
    twice false e =
        let few : s + a ≤ most_steps = ltb-false most_steps (s + a) e in
        ap (λ t. added t c d) (added_within s n a b few) ∙ last few (nat_lt most_steps (s + a + c)) refl

-- sums by equal numbers
pub added_as : (t : Tally) (a b c d : ℕ) → a ≡ c → b ≡ d → added t a b ≡ added t c d
added_as t a b c d e f = ap (λ n. added t n b) e ∙ ap (λ n. added t c n) f

pub added_swap : (t : Tally) (a b c d : ℕ) → added (added t a b) c d ≡ added (added t c d) a b
added_swap t a b c d = added_twice t a b c d ∙ added_as t (a + c) (b + d) (c + a) (d + b) (omega arith) (omega arith) ∙ sym (added_twice t c d a b)

-- A tally that is not past its limits stays as it is where nothing is added.
pub record IsProper (t : Tally) : Type 0 where
  pub same : added t 0 0 ≡ t

pub proper_sum : (t : Tally) (a b : ℕ) → IsProper (added t a b)
proper_sum t a b = record { same = added_twice t a b 0 0 ∙ added_as t (a + 0) (b + 0) a b (omega arith) (omega arith) }

pub over_is : (t : Tally) → is_over t ≡ true → t ≡ tally.Over
over_is tally.Over h = refl
over_is (tally.Within s n) h = cc

-- the steps of a proper tally are within the limit
pub proper_fits : (s n : ℕ) → IsProper (tally.Within s n) → s ≤ most_steps
proper_fits s n h = fits (nat_lt most_steps (s + 0)) refl
  where
    fits : (b : Bool) → nat_lt most_steps (s + 0) ≡ b → s ≤ most_steps
    fits true e =
        let more : most_steps < s + 0 = ltb-true most_steps (s + 0) e in
        let apart : tally.Over ≡ tally.Within s n = sym (added_past s n 0 0 more) ∙ h.same in
        cc
    fits false e = omega (arith, ltb-false most_steps (s + 0) e)

pub proper_begun : (t : Tally) → IsProper t → IsProper (begun t)
proper_begun tally.Over h = h
proper_begun (tally.Within s n) h =
    let few : s ≤ most_steps = proper_fits s n h in
    record { same = added_within s 0 0 0 (omega arith) ∙ ap (λ m. tally.Within m 0) (omega arith) }
