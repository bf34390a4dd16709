use Rattle.sk_tree.specs.Patterns.{field_patterns}
use Rattle.sk_parser.proofs.WalkLaws.{item_seen, list_seen}
use Rattle.sk_parser.proofs.walk.see_fields.Goals as goal

pub loop-field-preserved : goal.loop-field-preserved
loop-field-preserved c = item_seen field_patterns _ _ _ _ _ c.field-item.result c.loop-field-test.true c.field-item.is c.in_ok-met.ensures c.loop-field.invariant

pub returns : goal.returns
returns c = list_seen field_patterns _ _ _ _ c.loop-field-test.false c.loop-field.invariant
