use Rattle.std.proofs.Common.{arith, ap, length}
use Rattle.sk_arr.proofs.Standing.{Stands-keeps}
use Rattle.sk_sym_stores.proofs.Records.{InitsStand-keeps, more_stand, sets_more}
use Rattle.sk_sym_stores.proofs.creation.+set_fields.Goals as goal

pub set_fields-requires : goal.set_fields-requires
set_fields-requires t c =
    let moves = c.in_ok-write_field.ensures.stores.does.moves in
    (omega (arith, ap length c.in-Some.ensures.front), (moves.stands, (Stands-keeps moves.keeps c.requires.reference, InitsStand-keeps moves.keeps (more_stand c.in-Some.ensures c.requires.inits))))

pub returns-clause-sets : goal.returns-clause-sets
returns-clause-sets t c = sets_more c.args.span c.in-Some.ensures c.in_ok-write_field.ensures.stores c.in_ok-set_fields.ensures.sets
