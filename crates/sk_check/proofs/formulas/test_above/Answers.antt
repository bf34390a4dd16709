use Rattle.std.proofs.Common.{length}
use Rattle.sk_check.proofs.Asked.{above_some}
use Rattle.sk_check.proofs.formulas.test_above.Goals as goal

pub returns-in_ok-test_upper_formulas-in-Some-clause-asks : goal.returns-in_ok-test_upper_formulas-in-Some-clause-asks
returns-in_ok-test_upper_formulas-in-Some-clause-asks c =
    above_some c.args.expanded.now c.args.bounds.now c.args.certificate.now c.in-Some.choice (length c.args.certificate.now.upper) c.in-Some.is c.in_ok-test_upper_formulas-in-Some.ensures.asks
