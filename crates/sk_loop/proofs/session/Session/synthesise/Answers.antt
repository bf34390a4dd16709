use Rattle.sk_loop.proofs.Turns.{honest_steps}
use Rattle.sk_loop.proofs.session.Session.synthesise.Goals as goal

pub returns-in-Ok-clause-honest : goal.returns-in-Ok-clause-honest
returns-in-Ok-clause-honest g c = honest_steps c.search.new.self c.args.expanded.now c.args.bounds.now c.args.limit c.args.pairs.now c.search.new.pairs c.requires.honest c.in-Ok.ensures.steps
