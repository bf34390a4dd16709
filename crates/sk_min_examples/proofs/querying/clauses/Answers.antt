use Rattle.sk_min_examples.proofs.Asks.{clauses}
use Rattle.sk_min_examples.proofs.querying.clauses.Goals as goal

pub returns : goal.returns
returns c = clauses
