use Rattle.std.proofs.Common.{◌≡◌, ◌++◌, length, drop}
use Rattle.sk_sat.specs.Engine.{IsReady}
use Rattle.sk_sat.proofs.engine.Engine.catch_up.Given as goal

abbrev pub invariant-loop-i : goal.invariant-loop-i
invariant-loop-i l = record {
  ready : IsReady l.self;
  long : length l.self.trail.values.items ≡ length l.fn.self.trail.values.items;
  known : l.self.known ++ drop l.i l.added ≡ l.fn.self.known ++ drop l.fn.self.taken l.added;
}
