use Rattle.sk_sat.proofs.settle.back_to.Goals as goal

pub returns-then-depth-len-clause-trail : goal.returns-then-depth-len-clause-trail
returns-then-depth-len-clause-trail c = c.cancel.ensures.trail c.args.known.now c.requires.trail

pub returns-then-depth-len-clause-back : goal.returns-then-depth-len-clause-back
returns-then-depth-len-clause-back c = c.cancel.ensures.back c.args.known.now c.requires.trail
