use Rattle.sk_cert.specs.Words.{input_in}
use Rattle.sk_cert.specs.Readers.{one}
use Rattle.sk_cert.proofs.Repeated.{repeated_step}
use Rattle.sk_cert.proofs.reader.input_rows.Goals as goal

pub loop-i-preserved : goal.loop-i-preserved
loop-i-preserved c = repeated_step (one input_in) c.args.count c.loop-i.i c.loop-i.inputs _ c.loop-i.rest.now c.args.text.now c.in_ok-input.input c.in_ok-input.behind.now c.loop-i-test.true c.loop-i.invariant c.in_ok-input.ensures c.in_ok-push.ensures.ok
