use Rattle.std.proofs.Common.{ap}
use Rattle.sk_model.specs.Eval.{padded_at as padded_at_of}
use Rattle.sk_sym_literals.proofs.Values.{made_itself, made_as}
use Rattle.sk_sym_literals.proofs.padding.padded_at.Goals as goal

pub returns-in-None-clause-made : goal.returns-in-None-clause-made
returns-in-None-clause-made c = made_as (ap padded_at_of c.in-None.is) (made_itself c.args.a c.requires.a)

pub returns-in_ok-r-in-Some-clause-made : goal.returns-in_ok-r-in-Some-clause-made
returns-in_ok-r-in-Some-clause-made c = made_as (ap padded_at_of c.in-Some.is) c.in_ok-r-in-Some.ensures.made
