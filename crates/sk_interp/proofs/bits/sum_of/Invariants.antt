use Rattle.std.proofs.Common.{◌≡◌, ◌++◌, drop, false}
use Rattle.sk_interp.specs.Ripple.{ripple}
use Rattle.sk_interp.proofs.bits.sum_of.Given as goal

abbrev pub invariant-loop-x : goal.invariant-loop-x
invariant-loop-x l = l.made.items ++ ripple (drop l.x-index l.a) l.rest l.carry ≡ ripple l.a l.b false
