use Rattle.sk_sym_literals.proofs.Values.{bit_given}
use Rattle.sk_sym_literals.proofs.given.bit.Goals as goal

pub returns-clause-given : goal.returns-clause-given
returns-clause-given c = bit_given _ c.in_ok-id.ensures.there c.in_ok-id.ensures.value
