use Rattle.sk_built_laws.proofs.Taken.{only_of}
use Rattle.sk_built_laws.proofs.Refusals.{built_or_cause}
use Rattle.sk_built_laws.proofs.laws.texts_are_taken_once.Goals as goal

pub returns : goal.returns
returns c = record { only = only_of; no_cause = λ set text bounds e told built cause. built_or_cause set text bounds e told built cause }
