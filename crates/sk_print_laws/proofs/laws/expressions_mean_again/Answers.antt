use Rattle.sk_print_laws.proofs.MeansAgain.{means_again}
use Rattle.sk_print_laws.proofs.laws.expressions_mean_again.Goals as goal

pub returns : goal.returns
returns c = means_again
