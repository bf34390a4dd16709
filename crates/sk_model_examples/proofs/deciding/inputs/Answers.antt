use Rattle.sk_model_examples.proofs.Computed.{inputs}
use Rattle.sk_model_examples.proofs.deciding.inputs.Goals as goal

pub returns : goal.returns
returns c = inputs
