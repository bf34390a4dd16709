use Rattle.sk_sym_literals.proofs.Holes.{hole_as}
use Rattle.sk_sym_literals.proofs.hole.hole_value.Goals as goal

pub returns-in_ok-r-in-None-clause-chosen : goal.returns-in_ok-r-in-None-clause-chosen
returns-in_ok-r-in-None-clause-chosen c = hole_as c.args.dag.now.bits c.args.site c.in-None.is c.in_ok-r-in-None.ensures.chosen

pub returns-in_ok-r-in-Some-clause-chosen : goal.returns-in_ok-r-in-Some-clause-chosen
returns-in_ok-r-in-Some-clause-chosen c = hole_as c.args.dag.now.bits c.args.site c.in-Some.is c.in_ok-r-in-Some.ensures.chosen
