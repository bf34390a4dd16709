use Rattle.sk_sym_operators.proofs.Computing.{always_fails}
use Rattle.sk_sym_operators.proofs.reading.meaningless.Goals as goal

pub returns-clause-computed : goal.returns-clause-computed
returns-clause-computed c = always_fails c.in_ok-fails.ensures.there c.in_ok-fails.ensures.value
