use Rattle.sk_min_examples.proofs.Asks.{wanted}
use Rattle.sk_min_examples.proofs.querying.wanted.Goals as goal

pub returns : goal.returns
returns c = wanted
