use Rattle.sk_min_examples.proofs.Pairs.{queries}
use Rattle.sk_min_examples.proofs.pairing.queries.Goals as goal

pub returns : goal.returns
returns c = queries
