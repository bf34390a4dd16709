use Rattle.sk_rup.proofs.StepLemmas.{steps_forced, fewer_forced}
use Rattle.sk_rup.proofs.look.look_at.Goals as goal

pub returns-in_ok-force-in-Unit-clause-steps : goal.returns-in_ok-force-in-Unit-clause-steps
returns-in_ok-force-in-Unit-clause-steps c =
    let one = rw (c.deref.ensures.value, c.get.ensures) at c.in-Unit.ensures in
    steps_forced _ _ _ c.args.i c.in-Unit.l c.requires.covers c.in_ok-force-in-Unit.ensures.covers c.requires.within c.requires.i one c.in_ok-force-in-Unit.ensures.values c.in_ok-force-in-Unit.ensures.lits

pub returns-in_ok-force-in-Unit-clause-look : goal.returns-in_ok-force-in-Unit-clause-look
returns-in_ok-force-in-Unit-clause-look c =
    let one = rw (c.deref.ensures.value, c.get.ensures) at c.in-Unit.ensures in
    fewer_forced c.args.known.now c.args.trail.now c.force.new.self c.args.i c.in-Unit.l c.requires.within c.requires.i one c.in_ok-force-in-Unit.ensures.values
