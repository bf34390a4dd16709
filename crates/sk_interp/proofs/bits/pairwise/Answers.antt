use Rattle.sk_interp.specs.Ripple.{of_bits}
use Rattle.sk_interp.proofs.Ripples.{pairwise_done}
use Rattle.sk_interp.proofs.bits.pairwise.Goals as goal

pub returns-in_default : goal.returns-in_default
returns-in_default c = pairwise_done (of_bits c.args.op) c.loop-x.made.items _ c.loop-x.rest.now _ c.in_default.len_below c.loop-x.invariant
