use Rattle.sk_check_laws.proofs.Excluding.{rejected_once, rejected_is_not_certified}
use Rattle.sk_check_laws.proofs.law.parts_exclude.Goals as goal

pub returns-clause-once : goal.returns-clause-once
returns-clause-once c = rejected_once

pub returns-clause-certified : goal.returns-clause-certified
returns-clause-certified c = rejected_is_not_certified
