use Rattle.sk_adt_laws.proofs.Computed.{examples}
use Rattle.sk_adt_laws.proofs.laws.lowering_examples.Goals as goal

pub returns : goal.returns
returns c = examples
