use Rattle.std.proofs.Common.{◌∙◌}
use Rattle.sk_opts.proofs.PragmaWords.{more_items, all_items}
use Rattle.sk_opts.proofs.pragmas.read_items.Goals as goal

pub loop-item-preserved : goal.loop-item-preserved
loop-item-preserved c = record {
  value = c.loop-item.invariant.value ∙ more_items _ _ _ _ _ c.loop-item-test.true c.item-item.is c.read_item-set.ensures.value;
  ranges = c.read_item-set.ensures.ranges c.loop-item.invariant.ranges;
}

pub returns-clause-value : goal.returns-clause-value
returns-clause-value c = all_items _ _ _ c.loop-item-test.false c.loop-item.invariant.value
