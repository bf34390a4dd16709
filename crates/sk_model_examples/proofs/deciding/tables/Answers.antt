use Rattle.sk_model_examples.proofs.Computed.{tables}
use Rattle.sk_model_examples.proofs.deciding.tables.Goals as goal

pub returns : goal.returns
returns c = tables
