use Rattle.std.proofs.Common.{◌∙◌}
use Rattle.sk_sat.proofs.EngineLemmas.{current_from}
use Rattle.sk_sat.proofs.engine.current.Goals as goal

pub returns : goal.returns
returns c =
    let serves = c.in_ok-engine.ensures c.args.added.now c.requires.held in
    let known = rw (c.grow.ensures.known, c.grow.ensures.taken) at c.in_ok-catch_up.ensures.known in
    current_from c.args.vars c.args.added.now c.args.learnt.now c.in_ok-engine.engine c.catch_up.new.self serves c.in_ok-catch_up.ensures.ready (c.in_ok-catch_up.ensures.vars ∙ c.in_ok-grow.ensures.vars) known c.in_ok-catch_up.ensures.taken
