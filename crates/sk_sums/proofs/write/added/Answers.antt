use Rattle.sk_dag.proofs.EvalLemmas.{Keeps-trans}
use Rattle.sk_sums.proofs.SumLemmas.{added_step}
use Rattle.sk_sums.proofs.write.added.Goals as goal

pub loop-term-preserved : goal.loop-term-preserved
loop-term-preserved c = record {
  keeps = Keeps-trans c.loop-term.invariant.keeps c.xor.ensures.keeps;
  there = c.in_ok-all-2.ensures.there;
  value = λ g more e.
      added_step c.args.terms.now c.loop-term.term-index c.loop-term.all c.in_ok-all-2.all g e c.loop-term-test.true (c.in_ok-all-2.ensures.value g more e) (c.loop-term.invariant.value g (c.xor.ensures.keeps.later g more) e);
}
