use Rattle.std.proofs.Common.{◌≡◌, ◌-◌, ◌++◌}
use Rattle.std.specs.Prelude.{replicate}
use Rattle.sk_interp.proofs.value.with_copies.Given as goal

-- what is made so far and the copies that are wanting
abbrev pub invariant-loop : goal.invariant-loop
invariant-loop l = l.made ++ replicate (l.count - l.counter) l.v ≡ l.initial.made ++ replicate l.count l.v
