use Rattle.std.proofs.Common.{◌+◌, ap, ◌∙◌}
use Rattle.sk_oblig.proofs.Parameters.{count_more}
use Rattle.sk_oblig.proofs.plain.count_of.Goals as goal

pub loop-param-preserved : goal.loop-param-preserved
loop-param-preserved c = record {
  count = count_more c.args.params.now c.loop-param.param-index c.param-item.result c.loop-param.count c.in_ok-count.count c.loop-param-test.true c.param-item.is c.loop-param.invariant.count (c.in_ok-count.ensures ∙ ap (λ j. c.loop-param.count + j) c.numbers_of.ensures);
}
