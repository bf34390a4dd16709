use Rattle.sk_sym_walk.proofs.Conditions.{failed_places}
use Rattle.sk_sym_walk.proofs.failing.fail_nowhere.Goals as goal

pub returns-clause-places : goal.returns-clause-places
returns-clause-places c = failed_places c.args.span c.in_ok-fail_here.ensures.executes c.variable.ensures
