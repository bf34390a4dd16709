use Rattle.sk_min_examples.proofs.Bests.{short}
use Rattle.sk_min_examples.proofs.costing.short.Goals as goal

pub returns : goal.returns
returns c = short
