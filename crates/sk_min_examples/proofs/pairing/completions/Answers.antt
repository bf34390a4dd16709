use Rattle.sk_min_examples.proofs.Pairs.{completions}
use Rattle.sk_min_examples.proofs.pairing.completions.Goals as goal

pub returns : goal.returns
returns c = completions
