use Rattle.sk_dag.proofs.EvalLemmas.{Keeps-trans}
use Rattle.sk_oblig.proofs.Listed.{fine_more}
use Rattle.sk_oblig.proofs.wanted.all_fine.Goals as goal

pub loop-input-preserved : goal.loop-input-preserved
loop-input-preserved c =
    let inv = c.loop-input.invariant in
    record {
      keeps = Keeps-trans (Keeps-trans inv.keeps c.in_ok-one.ensures.keeps) c.in_ok-all-2.ensures.keeps;
      fine = fine_more c.args.inputs.now c.loop-input.input-index c.input-item.result c.loop-input.all c.in_ok-one.one c.in_ok-all-2.all c.loop-input-test.true c.input-item.is c.in_ok-one.ensures.keeps c.in_ok-all-2.ensures.keeps inv.fine c.in_ok-one.ensures.fine c.in_ok-all-2.ensures.there c.in_ok-all-2.ensures.value;
    }
