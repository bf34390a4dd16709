use Rattle.std.proofs.Common.{◌+◌, ap, ◌∙◌}
use Rattle.sk_dag.proofs.EvalLemmas.{Keeps-trans}
use Rattle.sk_oblig_arguments.proofs.Reading.{args_more, count_more}
use Rattle.sk_oblig_arguments.proofs.argument.arguments.Goals as goal

pub loop-param-preserved : goal.loop-param-preserved
loop-param-preserved c = record {
  keeps = Keeps-trans c.loop-param.invariant.keeps c.in_ok-one.ensures.keeps;
  place = count_more c.args.params.now c.loop-param.param-index c.param-item.result c.args.first c.loop-param.at c.in_ok-at.at c.loop-param-test.true c.param-item.is c.loop-param.invariant.place (c.in_ok-at.ensures.at ∙ ap (λ j. c.loop-param.at + j) c.count_in.ensures);
  read = args_more c.args.params.now c.loop-param.param-index c.param-item.result c.loop-param-test.true c.param-item.is c.in_ok-one.ensures.keeps c.loop-param.invariant.read c.in_ok-one.ensures.reads c.in_ok-push.ensures.ok c.loop-param.invariant.place;
}
