-- Each clause of `sizes`, from what its answer says fault by fault.
use Rattle.std.proofs.Common.{◌≡◌, ◌<◌, ◌≤◌, true, false, refl, arith}
use Rattle.std.specs.Prelude.{Result, Ok, Err, IfOk, IfErr, IsTrue, not, ◌||◌}
use Rattle.sk_base.specs.declared.bounds.Bounds.{Bounds}
use Rattle.sk_model.specs.declared.expanded.Expanded.{Expanded}
use Rattle.sk_model.specs.Limits.{most_steps, most_news}
use Rattle.sk_model.specs.Steps.{steps}
use Rattle.sk_model.specs.News.{news}
use Rattle.sk_expand_sizes.specs.declared.answer.Sizes.{Sizes}
use Rattle.sk_expand_sizes.specs.declared.fault.SizeFault.{SizeFault}
use Rattle.sk_expand_sizes.specs.declared.fault.SizeFault.TheVariants as fault
use Rattle.sk_expand_sizes.specs.Sizes.{Answers, Exactly, IsSizesOf, is_copies, is_sites, is_steps, is_news}

off : {A : Type 0} → false ≡ true → A
off e = absurd (cc)

module _ (bounds : Bounds) (e : Expanded) where
  abbrev TooManySteps : Type 0
  TooManySteps = most_steps < steps bounds e

  abbrev TooManyNews : Type 0
  TooManyNews = (steps bounds e ≤ most_steps) × (most_news < news bounds e)

  pub found : (r : Result Sizes SizeFault) → Answers bounds e r → IfOk r (IsSizesOf bounds e)
  found (Ok sizes) h = h
  found (Err f) h = tt

  pub only_steps : (r : Result Sizes SizeFault) → Answers bounds e r → Exactly is_steps TooManySteps r
  only_steps (Ok sizes) h = record { by_cause = tt; at_cause = λ c. absurd (omega (arith, c, h.steps_fit)) }
  only_steps (Err fault.Steps) h = record { by_cause = λ _. h; at_cause = λ c. refl }
  only_steps (Err fault.News) h = record { by_cause = λ f. off f; at_cause = λ c. absurd (omega (arith, c, h.0)) }
  only_steps (Err fault.Copies) h = absurd h
  only_steps (Err fault.Sites) h = absurd h
  only_steps (Err fault.Memory) h = record { by_cause = λ f. off f; at_cause = λ c. refl }

  pub only_news : (r : Result Sizes SizeFault) → Answers bounds e r → Exactly is_news TooManyNews r
  only_news (Ok sizes) h = record { by_cause = tt; at_cause = λ c. absurd (omega (arith, c.1, h.news_fit)) }
  only_news (Err fault.Steps) h = record { by_cause = λ f. off f; at_cause = λ c. absurd (omega (arith, c.0, h)) }
  only_news (Err fault.News) h = record { by_cause = λ _. h; at_cause = λ c. refl }
  only_news (Err fault.Copies) h = absurd h
  only_news (Err fault.Sites) h = absurd h
  only_news (Err fault.Memory) h = record { by_cause = λ f. off f; at_cause = λ c. refl }

  pub others : (r : Result Sizes SizeFault) → Answers bounds e r → IfErr r (λ f. IsTrue (not (is_copies f || is_sites f)))
  others (Ok sizes) h = tt
  others (Err fault.Steps) h = refl
  others (Err fault.News) h = refl
  others (Err fault.Copies) h = absurd h
  others (Err fault.Sites) h = absurd h
  others (Err fault.Memory) h = refl
