use Rattle.sk_exec_values.proofs.Scalars.{row_more}
use Rattle.sk_exec_values.proofs.value.rows_of.Goals as goal

pub loop-preserved : goal.loop-preserved
loop-preserved c = row_more c.args.count c.args.rows c.loop.counter _ _ _ _ _ c.loop-test.true c.in_ok-row.ensures.row c.in_ok-row.ensures.rest c.in_ok-push.ensures.ok _ c.loop.invariant
