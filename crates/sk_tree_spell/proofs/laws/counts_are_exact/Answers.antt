use Rattle.sk_tree_spell.proofs.CountLaws.{counts_strings}
use Rattle.sk_tree_spell.proofs.laws.counts_are_exact.Goals as goal

pub returns : goal.returns
returns c = counts_strings
