use Rattle.sk_min_examples.proofs.Asks.{said}
use Rattle.sk_min_examples.proofs.querying.said.Goals as goal

pub returns : goal.returns
returns c = said
