use Rattle.sk_dag.proofs.EvalLemmas.{Keeps-trans}
use Rattle.sk_heap.proofs.Zeros.{fields_more}
use Rattle.sk_heap.proofs.zero.zero_fields.Goals as goal

pub loop-field-preserved : goal.loop-field-preserved
loop-field-preserved c =
    let inv = c.loop-field.invariant in
    record {
      keeps = Keeps-trans inv.keeps c.in_ok-zero.ensures.keeps;
      zeros = rw c.in_ok-push.ensures.ok (fields_more c.args.fields.now c.loop-field.made c.loop-field.field-index c.field-item.result c.in_ok-zero.zero c.loop-field-test.true c.field-item.is inv.zeros c.in_ok-zero.ensures.keeps c.in_ok-zero.ensures.zero);
    }
