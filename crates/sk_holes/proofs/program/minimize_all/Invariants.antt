use Rattle.std.proofs.Common.{◌≡◌, drop, ◌++◌}
use Rattle.std.specs.Prelude.{map}
use Rattle.sk_holes_standing.specs.Functions.{minimize_paid}
use Rattle.sk_holes.proofs.program.minimize_all.Given as goal

abbrev pub invariant-loop-p : goal.invariant-loop-p
invariant-loop-p l = l.all.items ++ map minimize_paid (drop l.p-index l.paid) ≡ map minimize_paid l.paid
