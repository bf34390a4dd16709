use Rattle.sk_sym_operators.proofs.EachBit.{pair_is}
use Rattle.sk_sym_operators.proofs.bitwise.pair.Goals as goal

pub returns-clause-pair : goal.returns-clause-pair
returns-clause-pair c = pair_is c.bit_in.ensures c.bit_in-2.ensures c.in_ok-r.ensures.there c.in_ok-r.ensures.value
