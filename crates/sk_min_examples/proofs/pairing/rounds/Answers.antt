use Rattle.sk_min_examples.proofs.Pairs.{rounds}
use Rattle.sk_min_examples.proofs.pairing.rounds.Goals as goal

pub returns : goal.returns
returns c = rounds
