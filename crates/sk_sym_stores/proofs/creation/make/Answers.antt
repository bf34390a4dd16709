use Rattle.sk_sym_stores.proofs.Records.{InitsStand-keeps, makes}
use Rattle.sk_sym_stores.proofs.creation.make.Goals as goal

pub set_fields-requires-clause-inits : goal.set_fields-requires-clause-inits
set_fields-requires-clause-inits c = InitsStand-keeps c.in_ok-reference.ensures.evaluates.does.moves.keeps c.requires.inits

pub returns-clause-evaluates : goal.returns-clause-evaluates
returns-clause-evaluates c = makes c.args.s c.args.inits.now c.args.span c.in_ok-reference.ensures.evaluates c.in_ok-set_fields.ensures.sets
