use Rattle.std.proofs.Common.{arith, None}
use Rattle.std.proofs.lemmas.List.{length_push}
use Rattle.sk_sat.proofs.GrowLemmas.{trail_grow}
use Rattle.sk_sat.proofs.trail.Trail.grow.Goals as goal

pub vars-preserved : goal.vars-preserved
vars-preserved c = record {
  trail = λ known t. rw (c.in_ok-push.ensures.items, c.in_ok-push-2.ensures.items, c.in_ok-push-3.ensures.items) (trail_grow known _ _ _ _ _ (c.vars.invariant.trail known t));
  least = rw c.in_ok-push.ensures.items (omega (arith, length_push c.vars.self.values.items None, c.vars.invariant.least));
  most = rw c.in_ok-push.ensures.items (omega (arith, length_push c.vars.self.values.items None, c.vars.invariant.most, c.vars-test.true));
  lims = c.vars.invariant.lims;
}
