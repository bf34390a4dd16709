use Rattle.sk_sym_literals.proofs.Holes.{single_as, chosen_null}
use Rattle.sk_sym_literals.proofs.hole.hole_single.Goals as goal

pub returns-in_ok-r-in-Int-clause-chosen : goal.returns-in_ok-r-in-Int-clause-chosen
returns-in_ok-r-in-Int-clause-chosen c = single_as c.args.dag.now.bits c.args.site c.in-Int.is c.in_ok-r-in-Int.ensures.chosen

pub returns-in_ok-r-in-Bit-clause-chosen : goal.returns-in_ok-r-in-Bit-clause-chosen
returns-in_ok-r-in-Bit-clause-chosen c = single_as c.args.dag.now.bits c.args.site c.in-Bit.is c.in_ok-r-in-Bit.ensures.chosen

pub returns-in-Reference-clause-chosen : goal.returns-in-Reference-clause-chosen
returns-in-Reference-clause-chosen c = single_as c.args.dag.now.bits c.args.site c.in-Reference.is (chosen_null c.null.ensures)
