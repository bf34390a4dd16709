use Rattle.sk_min_examples.proofs.Bests.{greatest}
use Rattle.sk_min_examples.proofs.costing.greatest.Goals as goal

pub returns : goal.returns
returns c = greatest
