-- A run ends in exactly one of three ways.
use Rattle.std.proofs.Common.{inl, inr}
use Rattle.sk_model.specs.declared.outcome.Outcome.{Outcome}
use Rattle.sk_model.specs.declared.outcome.Outcome.TheVariants as outcome
use Rattle.sk_model.specs.RunningLaws.{EndsInOneWay}

pub one_way : (o : Outcome) → EndsInOneWay o
one_way (outcome.Done result refs cost) = record { one = inl tt; not_failed = λ d f. f; not_skipped = λ d s. s; not_both = λ f s. f }
one_way (outcome.Failed span) = record { one = inr (inl tt); not_failed = λ d f. d; not_skipped = λ d s. d; not_both = λ f s. s }
one_way (outcome.Skipped span) = record { one = inr (inr tt); not_failed = λ d f. d; not_skipped = λ d s. d; not_both = λ f s. f }
