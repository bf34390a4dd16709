use Rattle.sk_sat.proofs.BeginLemmas.{trail_begins_from}
use Rattle.sk_sat.proofs.trail.Trail.new.Goals as goal

pub returns-clause-trail : goal.returns-clause-trail
returns-clause-trail c = λ known. trail_begins_from known c.args.vars _ _ _ _ _ c.in_ok-nones.ensures c.in_ok-zeros.ensures c.in_ok-zeros-2.ensures c.new.ensures.items c.new-2.ensures.items
