use Rattle.sk_min_examples.proofs.Bests.{limits}
use Rattle.sk_min_examples.proofs.costing.limits.Goals as goal

pub returns : goal.returns
returns c = limits
