use Rattle.std.proofs.Common.{◌≡◌, ◌++◌, drop, map}
use Rattle.sk_model.specs.Operators.{bit}
use Rattle.sk_interp.proofs.bits.bits_of.Given as goal

abbrev pub invariant-loop-v : goal.invariant-loop-v
invariant-loop-v l = l.made.items ++ map bit (drop l.v-index l.v-items) ≡ map bit l.v-items
