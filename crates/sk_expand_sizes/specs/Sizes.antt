-- What `sizes` answers.
use Rattle.std.specs.Prelude.{◌≡◌, ◌<◌, ◌≤◌, Bool, true, false, ◌||◌, IsTrue, Result, Ok, Err, IfErr, MatchResult}
use Rattle.sk_base.specs.declared.bounds.Bounds.{Bounds}
use Rattle.sk_model.specs.declared.expanded.Expanded.{Expanded}
use Rattle.sk_model.specs.Limits.{most_steps, most_news}
use Rattle.sk_model.specs.Steps.{steps}
use Rattle.sk_model.specs.News.{news}
use Rattle.sk_expand_sizes.specs.declared.answer.Sizes.{Sizes}
use Rattle.sk_expand_sizes.specs.declared.fault.SizeFault.{SizeFault}
use Rattle.sk_expand_sizes.specs.declared.fault.SizeFault.TheVariants as fault

-- The sum of the steps of all obligations, and the greatest number of records of one, both within their limits.
pub record IsSizesOf (bounds : Bounds) (e : Expanded) (sizes : Sizes) : Type 0 where
  pub steps_are : sizes.steps ≡ steps bounds e
  pub news_are : sizes.news ≡ news bounds e
  pub steps_fit : steps bounds e ≤ most_steps
  pub news_fit : news bounds e ≤ most_news

abbrev pub is_memory : SizeFault → Bool
is_memory fault.Memory = true
is_memory _ = false

abbrev pub is_copies : SizeFault → Bool
is_copies fault.Copies = true
is_copies _ = false

abbrev pub is_sites : SizeFault → Bool
is_sites fault.Sites = true
is_sites _ = false

abbrev pub is_steps : SizeFault → Bool
is_steps fault.Steps = true
is_steps _ = false

abbrev pub is_news : SizeFault → Bool
is_news fault.News = true
is_news _ = false

-- The fault comes only by its cause, and where the cause holds it comes, unless memory runs out.
pub record Exactly (is_it : SizeFault → Bool) (cause : Type 0) (result : Result Sizes SizeFault) : Type 0 where
  pub by_cause : IfErr result (λ e. IsTrue (is_it e) → cause)
  pub at_cause : cause → MatchResult result (λ _. ⊥) (λ e. IsTrue (is_it e || is_memory e))

-- what the answer says, fault by fault
abbrev pub Answers : Bounds → Expanded → Result Sizes SizeFault → Type 0
Answers bounds e (Ok sizes) = IsSizesOf bounds e sizes
Answers bounds e (Err fault.Steps) = most_steps < steps bounds e
Answers bounds e (Err fault.News) = (steps bounds e ≤ most_steps) × (most_news < news bounds e)
Answers bounds e (Err fault.Copies) = ⊥
Answers bounds e (Err fault.Sites) = ⊥
Answers bounds e (Err fault.Memory) = Unit {0}
