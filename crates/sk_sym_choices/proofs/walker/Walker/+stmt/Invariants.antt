use Rattle.std.proofs.Common.{◌≡◌, drop, ◌+◌, ◌++◌}
use Rattle.sk_sym_choices.specs.Walk.{stmts, copies}
use Rattle.sk_sym_choices.proofs.walker.Walker.+stmt.Given as goal

-- what is met from here, after what is met so far, is all that is met
abbrev pub invariant-stmts-loop-s : goal.invariant-stmts-loop-s
invariant-stmts-loop-s l = record {
  called : l.met.called ++ ((stmts (drop l.s-index l.ss)).at l.at l.path).called ≡ l.fn.met.called ++ ((stmts l.ss).at l.fn.at l.path).called;
  owed : l.met.owed ++ ((stmts (drop l.s-index l.ss)).at l.at l.path).owed ≡ l.fn.met.owed ++ ((stmts l.ss).at l.fn.at l.path).owed;
  at : l.at + (stmts (drop l.s-index l.ss)).count ≡ l.fn.at + (stmts l.ss).count;
}

abbrev pub invariant-copies-loop-number : goal.invariant-copies-loop-number
invariant-copies-loop-number l = record {
  called : l.met.called ++ ((copies l.site l.number (drop l.number l.ss)).at l.at l.path).called ≡ l.fn.met.called ++ ((copies l.site 0 l.ss).at l.fn.at l.path).called;
  owed : l.met.owed ++ ((copies l.site l.number (drop l.number l.ss)).at l.at l.path).owed ≡ l.fn.met.owed ++ ((copies l.site 0 l.ss).at l.fn.at l.path).owed;
  at : l.at + (copies l.site l.number (drop l.number l.ss)).count ≡ l.fn.at + (copies l.site 0 l.ss).count;
}
