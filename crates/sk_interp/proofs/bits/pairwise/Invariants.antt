use Rattle.std.proofs.Common.{◌≡◌, ◌++◌, drop}
use Rattle.sk_model.specs.Operators.{pairwise}
use Rattle.sk_interp.specs.Ripple.{of_bits}
use Rattle.sk_interp.proofs.bits.pairwise.Given as goal

abbrev pub invariant-loop-x : goal.invariant-loop-x
invariant-loop-x l = l.made.items ++ pairwise (of_bits l.op) (drop l.x-index l.a) l.rest ≡ pairwise (of_bits l.op) l.a l.b
