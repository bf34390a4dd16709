use Rattle.sk_tree.proofs.KindLaws.{tree_says}
use Rattle.sk_tree.proofs.laws.spelt_as_spelled.Goals as goal

pub returns : goal.returns
returns c = record { kinds = tree_says }
