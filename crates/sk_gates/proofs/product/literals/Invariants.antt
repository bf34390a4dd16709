use Rattle.std.proofs.Common.{◌≤◌}
use Rattle.sk_gates.proofs.product.literals.Given as goal

abbrev pub invariant-loop-i : goal.invariant-loop-i
invariant-loop-i l = record { few : l.count ≤ l.i }
