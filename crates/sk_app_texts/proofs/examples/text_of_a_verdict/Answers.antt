use Rattle.sk_app_texts.proofs.Computed.{by_inputs}
use Rattle.sk_app_texts.proofs.examples.text_of_a_verdict.Goals as goal

pub returns : goal.returns
returns c = record { rejected = by_inputs }
