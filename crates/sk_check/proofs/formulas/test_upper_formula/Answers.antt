use Rattle.sk_check.proofs.Asked.{asks_at, rejected_above, upper_asked}
use Rattle.sk_check.proofs.formulas.test_upper_formula.Goals as goal

pub other_formula-requires-clause-asked : goal.other_formula-requires-clause-asked
other_formula-requires-clause-asked c =
    upper_asked c.args.expanded.now c.args.bounds.now c.args.certificate.now c.args.choice.now c.args.place c.in_ok-query.query c.args.part.now c.requires.form c.requires.five c.requires.choice c.requires.part c.in_ok-query.ensures

pub returns-in-Some-clause-stops : goal.returns-in-Some-clause-stops
returns-in-Some-clause-stops c =
    let found = rw c.in-Some.is at c.in_ok-own.ensures in
    rejected_above c.args.expanded.now c.args.bounds.now c.args.certificate.now c.args.choice.now c.args.place c.in_ok-query.query c.args.part.now c.in-Some.own c.requires.five c.requires.choice c.requires.part c.in_ok-query.ensures found.0 found.1

pub returns-clause-asks : goal.returns-clause-asks
returns-clause-asks c =
    let found = rw c.in-None.is at c.in_ok-own.ensures in
    asks_at c.args.expanded.now c.args.bounds.now c.args.certificate.now c.args.choice.now c.args.place c.in_ok-query.query c.args.part.now c.requires.part c.in_ok-query.ensures found
