use Rattle.sk_sat.specs.Trail.{IsTrail, Extends}
use Rattle.sk_sat.proofs.watches.Watches.take_in.Given as goal

abbrev pub invariant-loop-i : goal.invariant-loop-i
invariant-loop-i l = record {
  trail : IsTrail l.known l.trail;
  extends : Extends l.fn.trail l.trail;
}
