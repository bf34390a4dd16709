use Rattle.std.proofs.Common.{ap}
use Rattle.sk_model.specs.Values.{padded as padded_of}
use Rattle.sk_sym_literals.proofs.Values.{made_itself, made_as}
use Rattle.sk_sym_literals.proofs.padding.padded_to.Goals as goal

pub returns-in-One-clause-made : goal.returns-in-One-clause-made
returns-in-One-clause-made c = made_as (ap padded_of c.in-One.is) (made_itself c.args.a c.requires.a)

pub returns-in_ok-r-in-Array-clause-made : goal.returns-in_ok-r-in-Array-clause-made
returns-in_ok-r-in-Array-clause-made c = made_as (ap padded_of c.in-Array.is) c.in_ok-r-in-Array.ensures.made

pub returns-in_ok-r-in-Grid-clause-made : goal.returns-in_ok-r-in-Grid-clause-made
returns-in_ok-r-in-Grid-clause-made c = made_as (ap padded_of c.in-Grid.is) c.in_ok-r-in-Grid.ensures.made
