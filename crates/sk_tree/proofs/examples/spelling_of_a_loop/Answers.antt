use Rattle.sk_tree.proofs.ExampleLemmas.{loop_spells}
use Rattle.sk_tree.proofs.examples.spelling_of_a_loop.Goals as goal

pub returns : goal.returns
returns c = record { kinds = loop_spells }
