use Rattle.sk_sat.proofs.engine.Engine.new.Goals as goal

pub returns-clause-ready : goal.returns-clause-ready
returns-clause-ready c = record {
  on_trail = c.in_ok-trail.ensures.trail c.in_ok-known.known;
  at_start = c.in_ok-trail.ensures.lims;
  within = rw (c.in_ok-trail.ensures.long, c.in_ok-known.ensures) c.requires;
}
