use Rattle.std.proofs.Common.{arith}
use Rattle.sk_rup.proofs.LogLemmas.{IsWithin-step, IsWithin-all}
use Rattle.sk_rup.proofs.log.vars_of_clause.Goals as goal

pub loop-l-preserved : goal.loop-l-preserved
loop-l-preserved c = (IsWithin-step _ _ _ _ _ c.loop-l-test.true c.in_ok-vars.ensures.0 c.loop-l.invariant.0 c.in_ok-vars.ensures.1, omega (arith, c.in_ok-vars.ensures.0))

pub returns : goal.returns
returns c = (IsWithin-all _ _ _ c.loop-l-test.false c.loop-l.invariant.0, c.loop-l.invariant.1)
