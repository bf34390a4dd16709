use Rattle.sk_cert_inputs.proofs.Listings.{listed_once, distinct_are_apart, apart_are_distinct}
use Rattle.sk_cert_inputs.proofs.law.listed_again.Goals as goal

pub returns-clause-once : goal.returns-clause-once
returns-clause-once c = listed_once

pub returns-clause-apart : goal.returns-clause-apart
returns-clause-apart c = distinct_are_apart

pub returns-clause-distinct : goal.returns-clause-distinct
returns-clause-distinct c = apart_are_distinct
