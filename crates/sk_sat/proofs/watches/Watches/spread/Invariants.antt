use Rattle.sk_sat.specs.Trail.{IsTrail, Extends}
use Rattle.sk_sat.proofs.watches.Watches.spread.Given as goal

abbrev pub invariant-loop-at : goal.invariant-loop-at
invariant-loop-at l = record {
  trail : IsTrail l.known l.trail;
  extends : Extends l.fn.trail l.trail;
}
