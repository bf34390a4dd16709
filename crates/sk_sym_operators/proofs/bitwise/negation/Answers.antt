use Rattle.sk_sym_operators.proofs.EachBit.{negation_is}
use Rattle.sk_sym_operators.proofs.bitwise.negation.Goals as goal

pub returns-clause-negation : goal.returns-clause-negation
returns-clause-negation c = negation_is c.bit_in.ensures c.in_ok-r.ensures.there c.in_ok-r.ensures.value
