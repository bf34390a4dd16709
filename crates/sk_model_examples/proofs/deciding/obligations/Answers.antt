use Rattle.sk_model_examples.proofs.Computed.{obligations_are}
use Rattle.sk_model_examples.proofs.deciding.obligations.Goals as goal

pub returns : goal.returns
returns c = obligations_are
