use Rattle.sk_print_laws.proofs.Small.{numbers_are_small}
use Rattle.sk_print_laws.proofs.laws.numbers_are_small.Goals as goal

pub returns : goal.returns
returns c = numbers_are_small
