use Rattle.sk_check.proofs.Asked.{all_ask}
use Rattle.sk_check.proofs.formulas.test_formulas.Goals as goal

pub returns-clause-formulas : goal.returns-clause-formulas
returns-clause-formulas c = all_ask c.args.expanded.now c.args.bounds.now c.args.certificate.now c.args.inputs c.requires.listed c.in_ok-test_above.ensures.asks c.in_ok-test_below.ensures.asks
