use Rattle.std.proofs.Common.{◌≡◌, ◌-◌, ◌++◌, false}
use Rattle.std.specs.Prelude.{replicate}
use Rattle.sk_interp.proofs.bits.with_zeros.Given as goal

abbrev pub invariant-loop : goal.invariant-loop
invariant-loop l = l.made.items ++ replicate (l.count - l.counter) false ≡ l.initial.made.items ++ replicate l.count false
