use Rattle.std.proofs.Common.{◌≡◌, drop, ◌++◌, ◌+◌}
use Rattle.sk_holes.specs.Filling.{exprs, fields}
use Rattle.sk_holes.proofs.filler.Filler.+expr.Given as goal

-- what is filled from here, after what is filled so far, is all that is filled
abbrev pub invariant-exprs-loop-e : goal.invariant-exprs-loop-e
invariant-exprs-loop-e l = record {
  filled : l.filled.items ++ (exprs l.self (drop l.e-index l.es)).at l.at ≡ (exprs l.self l.es).at l.fn.at;
  at : l.at + (exprs l.self (drop l.e-index l.es)).count ≡ l.fn.at + (exprs l.self l.es).count;
}

abbrev pub invariant-fields-loop-x : goal.invariant-fields-loop-x
invariant-fields-loop-x l = record {
  filled : l.filled.items ++ (fields l.self (drop l.x-index l.given)).at l.at ≡ (fields l.self l.given).at l.fn.at;
  at : l.at + (fields l.self (drop l.x-index l.given)).count ≡ l.fn.at + (fields l.self l.given).count;
}
