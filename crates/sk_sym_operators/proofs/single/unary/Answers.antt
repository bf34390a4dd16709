use Rattle.sk_sym_operators.proofs.EachBit.{at_operator}
use Rattle.sk_sym_operators.proofs.single.unary.Goals as goal

pub returns-in_ok-made-in-Not-clause-operated : goal.returns-in_ok-made-in-Not-clause-operated
returns-in_ok-made-in-Not-clause-operated c = at_operator _ c.in-Not.is c.in_ok-made-in-Not.ensures.operated

pub returns-in_ok-made-in-Flip-clause-operated : goal.returns-in_ok-made-in-Flip-clause-operated
returns-in_ok-made-in-Flip-clause-operated c = at_operator _ c.in-Flip.is c.in_ok-made-in-Flip.ensures.operated

pub returns-in_ok-made-in-Neg-clause-operated : goal.returns-in_ok-made-in-Neg-clause-operated
returns-in_ok-made-in-Neg-clause-operated c = at_operator _ c.in-Neg.is c.in_ok-made-in-Neg.ensures.operated
