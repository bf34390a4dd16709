use Rattle.std.proofs.Common.{◌≡◌, ◌++◌, take, length}
use Rattle.sk_rup.specs.Checker.{IsReady}
use Rattle.sk_rup.proofs.LogLemmas.{FollowsSoFar}
use Rattle.sk_rup.proofs.log.follow_all.Given as goal

abbrev pub invariant-loop-i : goal.invariant-loop-i
invariant-loop-i l = record {
  ready : IsReady l.checker;
  known : l.checker.known ≡ l.fn.checker.known ++ take l.i l.log;
  long : length l.checker.trail.values.items ≡ length l.fn.checker.trail.values.items;
  each : FollowsSoFar l.fn.checker.known l.log l.i;
}
