use Rattle.sk_min_examples.proofs.Asks.{leaves}
use Rattle.sk_min_examples.proofs.querying.leaves.Goals as goal

pub returns : goal.returns
returns c = leaves
