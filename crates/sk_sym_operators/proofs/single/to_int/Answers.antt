use Rattle.sk_sym_operators.proofs.Meaning.{at_bit, no_digit}
use Rattle.sk_sym_operators.proofs.single.to_int.Goals as goal

pub returns-in_ok-made-in-Bit-clause-operated : goal.returns-in_ok-made-in-Bit-clause-operated
returns-in_ok-made-in-Bit-clause-operated c = at_bit c.in-Bit.is c.in_ok-made-in-Bit.ensures.operated

pub returns-in_ok-made-in_default-clause-operated : goal.returns-in_ok-made-in_default-clause-operated
returns-in_ok-made-in_default-clause-operated c = no_digit c.args.a.now c.in_default.not-Bit c.in_ok-made-in_default.ensures.computed
