use Rattle.std.proofs.Common.{◌≡◌, ◌++◌, take}
use Rattle.sk_gates.proofs.convert.append.Given as goal

abbrev pub invariant-loop-i : goal.invariant-loop-i
invariant-loop-i l = record {
  vars : l.to.vars ≡ l.more.vars;
  clauses : l.to.clauses ≡ l.fn.to.clauses ++ take l.i l.more.clauses;
}
