use Rattle.std.proofs.Common.{arith}
use Rattle.sk_interp.proofs.Ripples.{ripple_done}
use Rattle.sk_interp.proofs.bits.sum_of.Goals as goal

pub returns : goal.returns
returns c = ripple_done c.loop-x.made.items c.args.a.now c.loop-x.rest.now c.args.b.now c.loop-x.carry c.loop-x.x-index (omega arith) c.loop-x.invariant
