use Rattle.sk_cert_inputs.proofs.Gathered.{rows_next}
use Rattle.sk_cert_inputs.proofs.reading.rows_listed.Goals as goal

pub loop-place-preserved : goal.loop-place-preserved
loop-place-preserved c = rows_next c.args.inbits c.args.elem c.args.length c.args.count c.loop-place._place c.args.scalars.now _ _ _ _ _ _ _ c.loop-place-test.true c.front-row.ensures c.behind-rest.ensures c.in_ok-value.ensures c.in-Some.is c.in_ok-push.ensures.ok c.loop-place.invariant
