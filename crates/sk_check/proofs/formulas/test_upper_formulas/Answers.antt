use Rattle.std.proofs.Common.{length, ap, arith}
use Rattle.sk_check.proofs.Asked.{asks_next}
use Rattle.sk_check.proofs.formulas.test_upper_formulas.Goals as goal

pub loop-place-preserved : goal.loop-place-preserved
loop-place-preserved c = asks_next c.args.expanded.now c.args.bounds.now c.args.certificate.now c.args.choice.now c.loop-place.place c.loop-place.invariant c.in_ok-test_upper_formula.ensures.asks

pub returns-clause-asks : goal.returns-clause-asks
returns-clause-asks c =
    let long = ap length c.as_slice-part-items.ensures in λ place below p at. c.loop-place.invariant place (omega (arith, below, long)) p at
