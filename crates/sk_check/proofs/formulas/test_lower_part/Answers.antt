use Rattle.sk_check.proofs.Asked.{asks_below, lower_asked, rejected_below}
use Rattle.sk_check.proofs.formulas.test_lower_part.Goals as goal

pub other_formula-requires-clause-asked : goal.other_formula-requires-clause-asked
other_formula-requires-clause-asked c = lower_asked c.args.expanded.now c.args.certificate.now.choice c.args.certificate.now.value c.args.inputs c.lower_query-query.result c.lower_query-query.ensures

pub returns-in-Some-clause-stops : goal.returns-in-Some-clause-stops
returns-in-Some-clause-stops c =
    let found = rw c.in-Some.is at c.in_ok-own.ensures in
    rejected_below c.args.expanded.now c.args.bounds.now c.args.certificate.now c.args.inputs c.lower_query-query.result c.args.part.now c.in-Some.own c.requires.five c.requires.listed c.requires.part c.lower_query-query.ensures found.0 found.1

pub returns-clause-asks : goal.returns-clause-asks
returns-clause-asks c =
    let found = rw c.in-None.is at c.in_ok-own.ensures in
    asks_below c.args.expanded.now c.args.bounds.now c.args.certificate.now c.args.inputs c.lower_query-query.result c.args.part.now c.requires.part c.lower_query-query.ensures found
