use Rattle.std.proofs.Common.{refl, arith}
use Rattle.sk_sym_operators.proofs.Slices.{of_fewer, slice_is}
use Rattle.sk_sym_operators.proofs.element.elements_from.Goals as goal

pub returns-then-count-len-clause-operated : goal.returns-then-count-len-clause-operated
returns-then-count-len-clause-operated c = of_fewer c.args.list.now c.args.from (omega (arith, c.len.ensures, c.if-count-len.true)) c.in_ok-made.ensures.computed

pub returns-clause-operated : goal.returns-clause-operated
returns-clause-operated c = slice_is _ _ refl refl (record { parts = c.in_ok-parts.parts; whole = refl; sliced = c.in_ok-parts.ensures.sliced })
