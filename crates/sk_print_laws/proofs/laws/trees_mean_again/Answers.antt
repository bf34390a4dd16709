use Rattle.sk_print_laws.proofs.TreeAgain.{trees_mean_again}
use Rattle.sk_print_laws.proofs.laws.trees_mean_again.Goals as goal

pub returns : goal.returns
returns c = trees_mean_again
