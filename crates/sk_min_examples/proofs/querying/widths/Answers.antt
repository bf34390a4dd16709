use Rattle.sk_min_examples.proofs.Asks.{widths}
use Rattle.sk_min_examples.proofs.querying.widths.Goals as goal

pub returns : goal.returns
returns c = widths
