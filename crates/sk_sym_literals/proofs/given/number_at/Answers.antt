use Rattle.std.proofs.Common.{ap}
use Rattle.sk_model.specs.Eval.{number_at as number_at_of}
use Rattle.sk_sym_literals.proofs.Values.{given_as}
use Rattle.sk_sym_literals.proofs.given.number_at.Goals as goal

pub returns-in-Reference-clause-given : goal.returns-in-Reference-clause-given
returns-in-Reference-clause-given c = given_as (ap (λ e. number_at_of c.args.dag.now.bits e c.args.n) c.in-Reference.is) (c.null.ensures c.args.dag.now)
