use Rattle.std.proofs.Common.{◌<◌, length, arith}
use Rattle.sk_rup.proofs.look.look_at_all.Goals as goal
use Rattle.sk_rup.proofs.look.look_at_all.Goals.{in-Forced, in-Settled}
use Rattle.sk_rup.proofs.StepLemmas.{steps_more}
use Rattle.sk_rup.proofs.PassLemmas.{pass_forced, pass_settled}

pub loop-i-preserved : goal.loop-i-preserved
loop-i-preserved c =
    let below : c.loop-i.i < length c.args.known.now = omega arith in
    let steps = steps_more _ _ _ _ c.loop-i.invariant.steps c.in_ok-look_at.ensures.steps in
    elim c.match-branch-2.branch [
      | in-Forced w ↦
          let less = rw w.in-Forced.is at c.in_ok-look_at.ensures.look in
          record { steps = steps; so_far = rw w.outcome-is (pass_forced c.args.known.now c.loop-i.i below c.args.trail.now c.loop-i.trail c.look_at.new.trail c.loop-i.invariant.steps less) }
      | in-Settled w ↦
          let settled = rw w.in-Settled.is at c.in_ok-look_at.ensures.look in
          record { steps = steps; so_far = rw w.outcome-is (pass_settled c.args.known.now c.loop-i.i below c.args.trail.now c.loop-i.trail c.look_at.new.trail c.loop-i.outcome c.loop-i.invariant.so_far settled.0 settled.1) }
    ]
