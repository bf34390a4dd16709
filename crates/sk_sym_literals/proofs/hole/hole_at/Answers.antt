use Rattle.std.proofs.Common.{Some, ap}
use Rattle.sk_sym_literals.proofs.Holes.{hole_as}
use Rattle.sk_sym_literals.proofs.hole.hole_at.Goals as goal

pub returns-in_ok-r-in-One-clause-chosen : goal.returns-in_ok-r-in-One-clause-chosen
returns-in_ok-r-in-One-clause-chosen c = hole_as c.args.dag.now.bits c.args.site (ap Some c.in-One.is) c.in_ok-r-in-One.ensures.chosen

pub returns-in_ok-r-in-Array-clause-chosen : goal.returns-in_ok-r-in-Array-clause-chosen
returns-in_ok-r-in-Array-clause-chosen c = hole_as c.args.dag.now.bits c.args.site (ap Some c.in-Array.is) c.in_ok-r-in-Array.ensures.chosen

pub returns-in_ok-r-in-Grid-clause-chosen : goal.returns-in_ok-r-in-Grid-clause-chosen
returns-in_ok-r-in-Grid-clause-chosen c = hole_as c.args.dag.now.bits c.args.site (ap Some c.in-Grid.is) c.in_ok-r-in-Grid.ensures.chosen
