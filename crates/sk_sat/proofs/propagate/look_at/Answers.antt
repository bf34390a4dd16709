use Rattle.sk_sat.proofs.PropagateLemmas.{unit_reason}
use Rattle.sk_sat.proofs.propagate.look_at.Goals as goal

pub returns-in_ok-force-in-Unit-clause-trail : goal.returns-in_ok-force-in-Unit-clause-trail
returns-in_ok-force-in-Unit-clause-trail c =
    let one = rw (c.get.ensures, c.deref.ensures.value) at c.in-Unit.ensures in
    c.in_ok-force-in-Unit.ensures.trail c.args.known.now c.requires.trail (unit_reason _ _ _ _ _ _ _ _ c.requires.trail c.requires.i one)
