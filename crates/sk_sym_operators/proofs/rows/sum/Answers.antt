use Rattle.std.proofs.Common.{refl}
use Rattle.sk_sym_operators.proofs.BitRows.{summed}
use Rattle.sk_sym_operators.proofs.rows.sum.Goals as goal

pub returns-clause-operated : goal.returns-clause-operated
returns-clause-operated c = summed _ refl refl refl c.requires.x_bits c.requires.y_bits c.in_ok-made.ensures.sum c.in_ok-fails.ensures.keeps c.in_ok-fails.ensures.there c.in_ok-fails.ensures.value
