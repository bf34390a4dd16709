use Rattle.sk_model_examples.proofs.Computed.{breaking}
use Rattle.sk_model_examples.proofs.deciding.breaking.Goals as goal

pub returns : goal.returns
returns c = breaking
