use Rattle.sk_types_laws.proofs.WholeComplete.{once}
use Rattle.sk_types_laws.proofs.laws.trees_mean_one_program.Goals as goal

pub returns : goal.returns
returns c = once
