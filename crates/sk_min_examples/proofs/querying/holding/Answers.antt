use Rattle.sk_min_examples.proofs.Asks.{holding}
use Rattle.sk_min_examples.proofs.querying.holding.Goals as goal

pub returns : goal.returns
returns c = holding
