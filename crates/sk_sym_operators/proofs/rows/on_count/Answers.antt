use Rattle.std.proofs.Common.{refl}
use Rattle.sk_sym_operators.proofs.BitRows.{at_forms}
use Rattle.sk_sym_operators.proofs.Meaning.{no_count}
use Rattle.sk_sym_operators.proofs.rows.on_count.Goals as goal

pub returns-in_ok-made-in-Shl-clause-operated : goal.returns-in_ok-made-in-Shl-clause-operated
returns-in_ok-made-in-Shl-clause-operated c = at_forms _ refl refl c.in-Shl.is c.in_ok-made-in-Shl.ensures.operated

pub returns-in_ok-made-in-Shr-clause-operated : goal.returns-in_ok-made-in-Shr-clause-operated
returns-in_ok-made-in-Shr-clause-operated c = at_forms _ refl refl c.in-Shr.is c.in_ok-made-in-Shr.ensures.operated

pub returns-in_ok-made-in_default-clause-operated : goal.returns-in_ok-made-in_default-clause-operated
returns-in_ok-made-in_default-clause-operated c = no_count _ _ _ c.in_default.not-Shl c.in_default.not-Shr c.in_ok-made-in_default.ensures.computed
