use Rattle.sk_model_examples.proofs.Computed.{costs}
use Rattle.sk_model_examples.proofs.deciding.costs.Goals as goal

pub returns : goal.returns
returns c = costs
