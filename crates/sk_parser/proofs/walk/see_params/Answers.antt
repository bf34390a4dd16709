use Rattle.sk_tree.specs.Patterns.{param_patterns}
use Rattle.sk_parser.proofs.WalkLaws.{item_seen, list_seen}
use Rattle.sk_parser.proofs.walk.see_params.Goals as goal

pub loop-param-preserved : goal.loop-param-preserved
loop-param-preserved c = item_seen param_patterns _ _ _ _ _ c.param-item.result c.loop-param-test.true c.param-item.is c.in_ok-met.ensures c.loop-param.invariant

pub returns : goal.returns
returns c = list_seen param_patterns _ _ _ _ c.loop-param-test.false c.loop-param.invariant
