use Rattle.sk_types_laws.proofs.WholeComplete.{whole}
use Rattle.sk_types_laws.proofs.laws.trees_are_exact.Goals as goal

pub returns : goal.returns
returns c = whole
