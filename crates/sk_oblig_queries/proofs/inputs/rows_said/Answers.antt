use Rattle.sk_oblig_queries.specs.Said.{rows_said}
use Rattle.sk_oblig_queries.proofs.Steps.{rows_next}
use Rattle.sk_oblig_queries.proofs.inputs.rows_said.Goals as goal

pub loop-place-preserved : goal.loop-place-preserved
loop-place-preserved c = rows_next c.args.elem c.args.length c.args.count c.loop-place._place c.loop-place.rest.now c.behind-rest.result.now c.loop-place.rows c.push.new.self (rows_said c.args.elem c.args.length c.args.count c.args.numbers.now) c.in_ok-row.row c.loop-place-test.true c.in_ok-row.ensures c.behind-rest.ensures c.in_ok-push.ensures.ok c.loop-place.invariant
