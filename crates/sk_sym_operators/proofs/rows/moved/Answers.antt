use Rattle.std.proofs.Common.{refl}
use Rattle.sk_sym_operators.proofs.BitRows.{shifted}
use Rattle.sk_sym_operators.proofs.rows.moved.Goals as goal

pub returns-clause-operated : goal.returns-clause-operated
returns-clause-operated c = shifted _ c.args.left _ refl refl refl c.requires.bits c.in_ok-moved.ensures.shifted
