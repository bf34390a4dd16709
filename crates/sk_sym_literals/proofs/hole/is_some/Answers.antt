use Rattle.std.proofs.Common.{◌∙◌, arith}
use Rattle.sk_sym_literals.proofs.Holes.{above_is, bit_is}
use Rattle.sk_sym_literals.proofs.hole.is_some.Goals as goal

pub returns-then-size-gt2-clause-value : goal.returns-then-size-gt2-clause-value
returns-then-size-gt2-clause-value c = λ h more e below. c.in_ok-r.ensures.value h more e below ∙ above_is _

pub returns-clause-value : goal.returns-clause-value
returns-clause-value c = λ h more e below. c.in_ok-r-2.ensures.value h more e ∙ bit_is _ (omega (arith, below, c.if-size-gt2.false))
