use Rattle.sk_model_examples.proofs.Computed.{choices}
use Rattle.sk_model_examples.proofs.deciding.choices.Goals as goal

pub returns : goal.returns
returns c = choices
