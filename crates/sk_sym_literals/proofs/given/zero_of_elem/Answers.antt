use Rattle.std.proofs.Common.{ap}
use Rattle.sk_model.specs.Values.{zero_of_elem as zero_of_elem_of}
use Rattle.sk_sym_literals.proofs.Values.{given_as}
use Rattle.sk_sym_literals.proofs.given.zero_of_elem.Goals as goal

pub returns-in-Reference-clause-given : goal.returns-in-Reference-clause-given
returns-in-Reference-clause-given c = given_as (ap zero_of_elem_of c.in-Reference.is) (c.null.ensures c.args.dag.now)
