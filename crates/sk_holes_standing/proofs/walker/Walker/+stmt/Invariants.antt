use Rattle.std.proofs.Common.{◌≡◌, drop, ◌+◌, ◌++◌}
use Rattle.sk_holes_standing.specs.Standing.{stmts, copies}
use Rattle.sk_holes_standing.proofs.walker.Walker.+stmt.Given as goal

-- what is met from here, after what is met so far, is all that is met
abbrev pub invariant-stmts-loop-s : goal.invariant-stmts-loop-s
invariant-stmts-loop-s l = record {
  called : l.met.called ++ ((stmts l.self (drop l.s-index l.ss)).at l.at).called ≡ l.fn.met.called ++ ((stmts l.self l.ss).at l.fn.at).called;
  payments : l.met.payments ++ ((stmts l.self (drop l.s-index l.ss)).at l.at).paid ≡ l.fn.met.payments ++ ((stmts l.self l.ss).at l.fn.at).paid;
  at : l.at + (stmts l.self (drop l.s-index l.ss)).count ≡ l.fn.at + (stmts l.self l.ss).count;
}

abbrev pub invariant-copies-loop-k : goal.invariant-copies-loop-k
invariant-copies-loop-k l = record {
  called : l.met.called ++ ((copies l.self l.number l.k (drop l.k l.ss)).at l.at).called ≡ l.fn.met.called ++ ((copies l.self l.number 0 l.ss).at l.fn.at).called;
  payments : l.met.payments ++ ((copies l.self l.number l.k (drop l.k l.ss)).at l.at).paid ≡ l.fn.met.payments ++ ((copies l.self l.number 0 l.ss).at l.fn.at).paid;
  at : l.at + (stmts l.self (drop l.k l.ss)).count ≡ l.fn.at + (stmts l.self l.ss).count;
}
