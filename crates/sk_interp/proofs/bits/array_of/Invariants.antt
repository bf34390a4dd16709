use Rattle.std.proofs.Common.{◌≡◌, ◌++◌, drop, map}
use Rattle.sk_model.specs.Values.{truth}
use Rattle.sk_interp.proofs.bits.array_of.Given as goal

abbrev pub invariant-loop-b : goal.invariant-loop-b
invariant-loop-b l = l.made ++ map truth (drop l.b-index l.bits) ≡ map truth l.bits
