use Rattle.sk_sat.proofs.SettleLemmas.{steps_go_on}
use Rattle.sk_sat.proofs.round.resolve_all.Goals as goal

pub returns-in-Forced : goal.returns-in-Forced
returns-in-Forced c =
    let r = rw c.in-Forced.is at c.in_ok-settle.ensures.step in
    (r.0, r.1, rw r.0 (steps_go_on c.args.known.now c.args.known.now c.args.trail.now c.settle.new.trail c.requires.trail r.2.trail r.2.steps))
