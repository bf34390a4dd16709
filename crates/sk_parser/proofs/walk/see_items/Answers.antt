use Rattle.sk_tree.specs.Patterns.{item_patterns}
use Rattle.sk_parser.proofs.WalkLaws.{item_seen, list_seen}
use Rattle.sk_parser.proofs.walk.see_items.Goals as goal

pub loop-item-preserved : goal.loop-item-preserved
loop-item-preserved c = item_seen item_patterns _ _ _ _ _ c.item-item.result c.loop-item-test.true c.item-item.is c.in_ok-met.ensures c.loop-item.invariant

pub returns : goal.returns
returns c = list_seen item_patterns _ _ _ _ c.loop-item-test.false c.loop-item.invariant
