use Rattle.std.proofs.Common.{◌≡◌, ◌≤◌}
use Rattle.sk_gates.proofs.convert.lengthen.Given as goal

abbrev pub invariant-loop : goal.invariant-loop
invariant-loop l = record {
  grown : l.to ≡ record l.fn.to { vars = l.counter };
  least : l.fn.to.vars ≤ l.counter;
}
