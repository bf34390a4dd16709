use Rattle.std.proofs.Common.{refl}
use Rattle.sk_sat.proofs.SettleLemmas.{refuted_by}
use Rattle.sk_sat.proofs.settle.step_of.Goals as goal

pub returns-then-depth-eq0 : goal.returns-then-depth-eq0
returns-then-depth-eq0 c = (
  refl,
  refl,
  refuted_by c.args.known.now c.args.trail.now c.args.i _ c.requires.trail c.requires.conflict c.depth_of-depth.ensures c.if-depth-eq0.true,
  record { trail = c.requires.trail; long = refl },
)
