use Rattle.std.proofs.Common.{◌<◌, length, arith}
use Rattle.sk_sat.proofs.InsideLemmas.{unlike_more}
use Rattle.sk_sat.proofs.known.scan_inside.Goals as goal

pub loop-j-preserved : goal.loop-j-preserved
loop-j-preserved c =
    let below : c.loop-j.j < length c.args.list.now = omega arith in
    unlike_more c.args.list.now c.args.clause.now c.loop-j.j below c.loop-j.invariant
    (λ h. (let k = c.includes.ensures.1 (rw c.get.ensures h) in let f = c.if-includes.false in cc))
