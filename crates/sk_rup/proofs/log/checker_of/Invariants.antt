use Rattle.std.proofs.Common.{◌≡◌, take, length}
use Rattle.sk_rup.specs.Checker.{IsReady}
use Rattle.sk_rup.proofs.log.checker_of.Given as goal

abbrev pub invariant-loop-i : goal.invariant-loop-i
invariant-loop-i l = record {
  ready : IsReady l.checker;
  known : l.checker.known ≡ take l.i l.clauses;
  long : length l.checker.trail.values.items ≡ l.fn.vars;
}
