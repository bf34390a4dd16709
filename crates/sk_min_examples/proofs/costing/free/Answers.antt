use Rattle.sk_min_examples.proofs.Bests.{free}
use Rattle.sk_min_examples.proofs.costing.free.Goals as goal

pub returns : goal.returns
returns c = free
