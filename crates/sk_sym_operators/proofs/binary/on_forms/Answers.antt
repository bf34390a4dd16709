use Rattle.std.proofs.Common.{refl}
use Rattle.sk_sym_operators.proofs.BitRows.{at_forms}
use Rattle.sk_sym_operators.proofs.Meaning.{reference_and}
use Rattle.sk_sym_operators.proofs.binary.on_forms.Goals as goal

pub returns-in_ok-made-in-Int-clause-operated : goal.returns-in_ok-made-in-Int-clause-operated
returns-in_ok-made-in-Int-clause-operated c = at_forms _ c.in-Int.is refl refl c.in_ok-made-in-Int.ensures.operated

pub returns-in_ok-made-in-Bit-clause-operated : goal.returns-in_ok-made-in-Bit-clause-operated
returns-in_ok-made-in-Bit-clause-operated c = at_forms _ c.in-Bit.is refl refl c.in_ok-made-in-Bit.ensures.operated

pub returns-in_ok-made-in-Array-clause-operated : goal.returns-in_ok-made-in-Array-clause-operated
returns-in_ok-made-in-Array-clause-operated c = at_forms _ c.in-Array.is refl refl c.in_ok-made-in-Array.ensures.operated

pub returns-in_ok-made-in-Reference-clause-operated : goal.returns-in_ok-made-in-Reference-clause-operated
returns-in_ok-made-in-Reference-clause-operated c = at_forms _ c.in-Reference.is refl refl (reference_and _ _ _ c.in_ok-made-in-Reference.ensures.computed)
