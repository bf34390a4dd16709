use Rattle.sk_loop.proofs.Standing.{steps_same}
use Rattle.sk_loop.proofs.session.Session.judge.Goals as goal

pub returns-in-None-clause-steps : goal.returns-in-None-clause-steps
returns-in-None-clause-steps g c = steps_same c.args.self.now c.args.expanded.now c.args.bounds.now c.args.limit c.args.pairs.now c.requires.stands

pub returns-in-Conflicts-clause-steps : goal.returns-in-Conflicts-clause-steps
returns-in-Conflicts-clause-steps g c = steps_same c.args.self.now c.args.expanded.now c.args.bounds.now c.args.limit c.args.pairs.now c.requires.stands
