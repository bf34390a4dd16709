use Rattle.sk_check_text.proofs.Answered.{only_checked, verdict_taken, accepted_taken, rejected_taken, none_taken}
use Rattle.sk_check_text.proofs.checking.checked_text.Goals as goal

pub returns-clause-only : goal.returns-clause-only
returns-clause-only c = only_checked c.args.set.now c.args.input.now c.said_of_input.result c.said_of_input.ensures.found c.said_of_input.ensures.fault

pub returns-clause-certificate : goal.returns-clause-certificate
returns-clause-certificate c = verdict_taken c.args.set.now c.args.input.now c.said_of_input.result c.said_of_input.ensures.found c.said_of_input.ensures.fault

pub returns-clause-accepted : goal.returns-clause-accepted
returns-clause-accepted c = accepted_taken c.args.set.now c.args.input.now c.said_of_input.result c.said_of_input.ensures.found c.said_of_input.ensures.fault

pub returns-clause-rejected : goal.returns-clause-rejected
returns-clause-rejected c = rejected_taken c.args.set.now c.args.input.now c.said_of_input.result c.said_of_input.ensures.found c.said_of_input.ensures.fault

pub returns-clause-not_certificate : goal.returns-clause-not_certificate
returns-clause-not_certificate c = none_taken c.args.set.now c.args.input.now c.said_of_input.result c.said_of_input.ensures.found c.said_of_input.ensures.fault
