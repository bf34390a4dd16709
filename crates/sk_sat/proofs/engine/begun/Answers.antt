use Rattle.sk_sat.proofs.EngineLemmas.{serves_new}
use Rattle.sk_sat.proofs.engine.begun.Goals as goal

pub returns-in-Some : goal.returns-in-Some
returns-in-Some c = λ added h. rw c.in-Some.is at h

pub returns-in_ok-engine-in-None : goal.returns-in_ok-engine-in-None
returns-in_ok-engine-in-None c = λ added h. serves_new c.args.vars added c.args.learnt.now c.in_ok-engine-in-None.engine c.in_ok-engine-in-None.ensures.ready c.in_ok-engine-in-None.ensures.vars c.in_ok-engine-in-None.ensures.known c.in_ok-engine-in-None.ensures.taken
