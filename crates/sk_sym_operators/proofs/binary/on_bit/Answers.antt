use Rattle.std.proofs.Common.{refl}
use Rattle.sk_sym_operators.proofs.Operating.{on_two_bits}
use Rattle.sk_sym_operators.proofs.Meaning.{bit_and_other}
use Rattle.sk_sym_operators.proofs.binary.on_bit.Goals as goal

pub returns-in_ok-made-in-Bit-clause-operated : goal.returns-in_ok-made-in-Bit-clause-operated
returns-in_ok-made-in-Bit-clause-operated c = on_two_bits _ _ _ _ refl c.in-Bit.is c.in_ok-made-in-Bit.ensures.computed

pub returns-in_ok-made-in_default-clause-operated : goal.returns-in_ok-made-in_default-clause-operated
returns-in_ok-made-in_default-clause-operated c = bit_and_other _ _ _ c.in_default.not-Bit c.in_ok-made-in_default.ensures.computed
