use Rattle.std.proofs.Common.{◌≡◌, drop, ◌+◌, ◌++◌}
use Rattle.sk_holes_standing.specs.Standing.{exprs, fields, strings}
use Rattle.sk_holes_standing.proofs.walker.Walker.+expr.Given as goal

-- what is met from here, after what is met so far, is all that is met
abbrev pub invariant-exprs-loop-e : goal.invariant-exprs-loop-e
invariant-exprs-loop-e l = record {
  called : l.met.called ++ ((exprs l.self (drop l.e-index l.es)).at l.at).called ≡ l.fn.met.called ++ ((exprs l.self l.es).at l.fn.at).called;
  payments : l.met.payments ++ ((exprs l.self (drop l.e-index l.es)).at l.at).paid ≡ l.fn.met.payments ++ ((exprs l.self l.es).at l.fn.at).paid;
  at : l.at + (exprs l.self (drop l.e-index l.es)).count ≡ l.fn.at + (exprs l.self l.es).count;
}

abbrev pub invariant-fields-loop-x : goal.invariant-fields-loop-x
invariant-fields-loop-x l = record {
  called : l.met.called ++ ((fields l.self (drop l.x-index l.given)).at l.at).called ≡ l.fn.met.called ++ ((fields l.self l.given).at l.fn.at).called;
  payments : l.met.payments ++ ((fields l.self (drop l.x-index l.given)).at l.at).paid ≡ l.fn.met.payments ++ ((fields l.self l.given).at l.fn.at).paid;
  at : l.at + (fields l.self (drop l.x-index l.given)).count ≡ l.fn.at + (fields l.self l.given).count;
}

abbrev pub invariant-strings-loop-k : goal.invariant-strings-loop-k
invariant-strings-loop-k l = record {
  called : l.met.called ++ ((strings l.self l.number l.k (drop l.k l.es)).at l.at).called ≡ l.fn.met.called ++ ((strings l.self l.number 0 l.es).at l.fn.at).called;
  payments : l.met.payments ++ ((strings l.self l.number l.k (drop l.k l.es)).at l.at).paid ≡ l.fn.met.payments ++ ((strings l.self l.number 0 l.es).at l.fn.at).paid;
  at : l.at + (exprs l.self (drop l.k l.es)).count ≡ l.fn.at + (exprs l.self l.es).count;
}
