use Rattle.sk_min_examples.proofs.Asks.{bad}
use Rattle.sk_min_examples.proofs.querying.bad.Goals as goal

pub returns : goal.returns
returns c = bad
