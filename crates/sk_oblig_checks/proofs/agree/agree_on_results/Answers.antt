use Rattle.sk_oblig_checks.proofs.Agreeing.{none_and_some, some_and_none, some_agree}
use Rattle.sk_oblig_checks.proofs.agree.agree_on_results.Goals as goal

pub returns-in_ok-r-in-Some-b-2-clause-agrees : goal.returns-in_ok-r-in-Some-b-2-clause-agrees
returns-in_ok-r-in-Some-b-2-clause-agrees c = rw (c.in-Some.is, c.in-Some-b-2.is) (some_agree c.in_ok-r-in-Some-b-2.ensures.agrees)

pub returns-in_ok-r-in-Some-b-clause-agrees : goal.returns-in_ok-r-in-Some-b-clause-agrees
returns-in_ok-r-in-Some-b-clause-agrees c = rw (c.in-None.is, c.in-Some-b.is) (none_and_some c.in_ok-r-in-Some-b.ensures.there c.in_ok-r-in-Some-b.ensures.value)

pub returns-in_ok-r-in-None-b-2-clause-agrees : goal.returns-in_ok-r-in-None-b-2-clause-agrees
returns-in_ok-r-in-None-b-2-clause-agrees c = rw (c.in-Some.is, c.in-None-b-2.is) (some_and_none c.in_ok-r-in-None-b-2.ensures.there c.in_ok-r-in-None-b-2.ensures.value)
