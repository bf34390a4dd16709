use Rattle.sk_tree_spell.proofs.Pairs.{row_more, row_all}
use Rattle.sk_tree_spell.proofs.string.+strings.Goals as goal

pub row-loop-part-preserved : goal.row-loop-part-preserved
row-loop-part-preserved t c = row_more c.args.parts.now c.loop-part.part-index c.part-item.result c.args.front c.loop-part.fronts.items c.in_ok-fronts.fronts.items c.loop-part-test.true c.part-item.is c.in_ok-fronts.ensures c.loop-part.invariant

pub row-returns : goal.row-returns
row-returns t c = row_all c.args.parts.now c.loop-part.part-index c.args.front c.loop-part.fronts.items c.loop-part-test.false c.loop-part.invariant
