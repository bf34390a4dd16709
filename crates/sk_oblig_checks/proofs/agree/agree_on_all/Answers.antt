use Rattle.sk_oblig_checks.proofs.Agreeing.{lists_agree}
use Rattle.sk_oblig_checks.proofs.agree.agree_on_all.Goals as goal

pub returns-clause-agrees : goal.returns-clause-agrees
returns-clause-agrees c = lists_agree c.in_ok-r.ensures.agrees
