use Rattle.sk_min_examples.proofs.Pairs.{counts}
use Rattle.sk_min_examples.proofs.pairing.counts.Goals as goal

pub returns : goal.returns
returns c = counts
