use Rattle.std.proofs.Common.{refl, arith}
use Rattle.sk_sym_operators.proofs.Elements.{of_nothing, element_is}
use Rattle.sk_sym_operators.proofs.element.element.Goals as goal

pub returns-then-len-lt1-clause-operated : goal.returns-then-len-lt1-clause-operated
returns-then-len-lt1-clause-operated c = of_nothing c.args.list.now c.args.index (omega (arith, c.len.ensures, c.if-len-lt1.true)) c.in_ok-made.ensures.computed

pub returns-clause-operated : goal.returns-clause-operated
returns-clause-operated c = element_is _ _ refl refl c.in_ok-value.ensures.read
