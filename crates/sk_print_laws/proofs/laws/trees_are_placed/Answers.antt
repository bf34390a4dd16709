use Rattle.sk_print_laws.proofs.TreePlaced.{tree_placed_again}
use Rattle.sk_print_laws.proofs.laws.trees_are_placed.Goals as goal

pub returns : goal.returns
returns c = tree_placed_again
