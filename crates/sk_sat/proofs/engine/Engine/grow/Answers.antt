use Rattle.std.proofs.Common.{◌∙◌, length, arith}
use Rattle.sk_sat.proofs.EngineLemmas.{within_wider}
use Rattle.sk_sat.proofs.engine.Engine.grow.Goals as goal

pub returns-clause-ready : goal.returns-clause-ready
returns-clause-ready c = record {
  on_trail = c.in_ok-grow.ensures.trail c.args.self.now.known c.requires.ready.on_trail;
  at_start = c.grow.ensures.lims ∙ c.requires.ready.at_start;
  within = within_wider (length c.args.self.now.trail.values.items) (length c.grow.new.self.values.items) c.args.self.now.known (omega (arith, c.in_ok-grow.ensures.long)) c.requires.ready.within;
}
