use Rattle.std.proofs.Common.{◌≡◌, []}
use Rattle.sk_gates.proofs.convert.apart.Given as goal

abbrev pub invariant-loop : goal.invariant-loop
invariant-loop l = record {
  grown : l.clauses ≡ record { vars = l.counter; clauses = [] };
}
