use Rattle.sk_print_laws.proofs.PlacedAgain.{placed_again}
use Rattle.sk_print_laws.proofs.laws.expressions_are_placed.Goals as goal

pub returns : goal.returns
returns c = placed_again
