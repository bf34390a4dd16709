use Rattle.sk_sym_operators.proofs.Computing.{surely_bit}
use Rattle.sk_sym_operators.proofs.operated.whole_bit.Goals as goal

pub returns-clause-computed : goal.returns-clause-computed
returns-clause-computed c = surely_bit c.requires c.in_ok-fails.ensures.there c.in_ok-fails.ensures.keeps c.in_ok-fails.ensures.value
