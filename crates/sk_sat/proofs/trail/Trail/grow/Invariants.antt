use Rattle.std.proofs.Common.{◌≡◌, ◌-◌, ◌≤◌, List, length, max}
use Rattle.sk_clause.specs.declared.lit.Lit.{Lit}
use Rattle.sk_sat.specs.Trail.{IsTrail}
use Rattle.sk_sat.proofs.trail.Trail.grow.Given as goal

abbrev pub invariant-vars : goal.invariant-vars
invariant-vars l = record {
  trail : (known : List (List Lit)) → IsTrail known l.fn.self → IsTrail known l.self;
  least : length l.fn.self.values.items ≤ length l.self.values.items;
  most : length l.self.values.items ≤ max (length l.fn.self.values.items) l.n;
  lims : l.self.lims.items ≡ l.fn.self.lims.items;
}

abbrev pub decreases-vars : goal.decreases-vars
decreases-vars l = l.n - length l.self.values.items
