use Rattle.sk_loop.proofs.Standing.{steps_same}
use Rattle.sk_loop.proofs.session.Session.round.Goals as goal

pub returns-in-Ended-clause-steps : goal.returns-in-Ended-clause-steps
returns-in-Ended-clause-steps g c = steps_same c.propose.new.self c.args.expanded.now c.args.bounds.now c.args.limit c.args.pairs.now c.in_ok-found.ensures.stands
