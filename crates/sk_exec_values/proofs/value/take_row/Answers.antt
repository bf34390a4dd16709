use Rattle.sk_exec_values.proofs.Scalars.{taken, dropped}
use Rattle.sk_exec_values.proofs.value.take_row.Goals as goal

pub loop-preserved : goal.loop-preserved
loop-preserved c = record {
  row = taken c.args.count c.loop.counter _ _ _ _ _ c.loop-test.true c.in-Some.ensures.items c.in_ok-push-in-Some.ensures.ok _ c.loop.invariant.row;
  rest = dropped c.args.count c.loop.counter _ _ _ c.loop-test.true c.in-Some.ensures.items _ c.loop.invariant.rest;
}
