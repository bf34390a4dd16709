use Rattle.sk_min_examples.proofs.Pairs.{honest}
use Rattle.sk_min_examples.proofs.pairing.honest.Goals as goal

pub returns : goal.returns
returns c = honest
