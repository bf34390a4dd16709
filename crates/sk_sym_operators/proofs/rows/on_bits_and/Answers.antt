use Rattle.std.proofs.Common.{refl}
use Rattle.sk_sym_operators.proofs.BitRows.{at_forms}
use Rattle.sk_sym_operators.proofs.Meaning.{row_and_other}
use Rattle.sk_sym_operators.proofs.rows.on_bits_and.Goals as goal

pub returns-in_ok-made-in-Array-clause-operated : goal.returns-in_ok-made-in-Array-clause-operated
returns-in_ok-made-in-Array-clause-operated c = at_forms _ refl c.in-Array.is refl c.in_ok-made-in-Array.ensures.operated

pub returns-in_ok-made-in-Int-clause-operated : goal.returns-in_ok-made-in-Int-clause-operated
returns-in_ok-made-in-Int-clause-operated c = at_forms _ refl c.in-Int.is refl c.in_ok-made-in-Int.ensures.operated

pub returns-in_ok-made-in_default-clause-operated : goal.returns-in_ok-made-in_default-clause-operated
returns-in_ok-made-in_default-clause-operated c = row_and_other _ _ _ c.in_default.not-Array c.in_default.not-Int c.in_ok-made-in_default.ensures.computed
