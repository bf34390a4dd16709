use Rattle.std.proofs.Common.{◌<◌, length, arith}
use Rattle.sk_sat.proofs.RoundLemmas.{met_more}
use Rattle.sk_sat.proofs.round.first_false.Goals as goal

pub loop-i-preserved : goal.loop-i-preserved
loop-i-preserved c =
    let below : c.loop-i.i < length c.args.known.now = omega arith in
    let settled = rw c.get.ensures at c.in-Settled.ensures in
    met_more c.args.known.now c.args.values.now c.loop-i.i below c.requires.within c.requires.full c.loop-i.invariant settled
