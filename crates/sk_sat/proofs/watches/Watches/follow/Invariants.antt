use Rattle.std.proofs.Common.{length, ◌-◌}
use Rattle.sk_sat.specs.Trail.{IsTrail, Extends}
use Rattle.sk_sat.proofs.watches.Watches.follow.Given as goal

abbrev pub invariant-queue : goal.invariant-queue
invariant-queue l = record {
  trail : IsTrail l.known l.trail;
  extends : Extends l.fn.trail l.trail;
}

abbrev pub decreases-queue : goal.decreases-queue
decreases-queue l = length l.trail.values.items - l.done
