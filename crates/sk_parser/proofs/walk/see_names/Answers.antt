use Rattle.sk_tree.specs.Patterns.{declared_patterns}
use Rattle.sk_parser.proofs.WalkLaws.{item_seen, list_seen}
use Rattle.sk_parser.proofs.walk.see_names.Goals as goal

pub loop-name-preserved : goal.loop-name-preserved
loop-name-preserved c = item_seen declared_patterns _ _ _ _ _ c.name-item.result c.loop-name-test.true c.name-item.is c.in_ok-met.ensures c.loop-name.invariant

pub returns : goal.returns
returns c = list_seen declared_patterns _ _ _ _ c.loop-name-test.false c.loop-name.invariant
