use Rattle.std.proofs.Common.{◌∙◌}
use Rattle.sk_min.proofs.Raises.{greatest_more, input_at}
use Rattle.sk_min.proofs.raise.greatest_on.Goals as goal

pub cost_of-requires-clause-is_input : goal.cost_of-requires-clause-is_input
cost_of-requires-clause-is_input c = input_at c.args.expanded.now c.args.bounds.now c.args.pairs.now c.loop-pair.pair-index c.pair-item.result c.loop-pair-test.true c.pair-item.is c.requires.inputs

pub loop-pair-preserved : goal.loop-pair-preserved
loop-pair-preserved c = c.larger-greatest.ensures ∙ greatest_more c.args.expanded.now c.args.bounds.now c.args.pairs.now c.loop-pair.pair-index c.pair-item.result c.args.choice.now c.loop-pair.greatest c.in_ok-cost.cost c.loop-pair-test.true c.pair-item.is c.loop-pair.invariant c.in_ok-cost.ensures
