use Rattle.sk_min_examples.proofs.Bests.{best}
use Rattle.sk_min_examples.proofs.costing.best.Goals as goal

pub returns : goal.returns
returns c = best
