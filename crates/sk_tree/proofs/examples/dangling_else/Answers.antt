use Rattle.sk_tree.proofs.ExampleLemmas.{nearest_stands, dangling_stands}
use Rattle.sk_tree.proofs.examples.dangling_else.Goals as goal

pub returns : goal.returns
returns c = record { near = nearest_stands; far = dangling_stands }
