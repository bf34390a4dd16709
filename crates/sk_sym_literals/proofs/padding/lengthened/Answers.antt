use Rattle.std.proofs.Common.{arith}
use Rattle.sk_sym_literals.proofs.Values.{longer, long_enough, zeros_behind}
use Rattle.sk_sym_literals.proofs.padding.lengthened.Goals as goal

pub returns-then-len-count-clause-made : goal.returns-then-len-count-clause-made
returns-then-len-count-clause-made c = longer (long_enough c.args.zero.now (omega (arith, c.if-len-count.true, c.len.ensures)) c.requires.list)

pub returns-clause-made : goal.returns-clause-made
returns-clause-made c = longer (rw c.in_ok-append.ensures (zeros_behind c.requires.list c.in_ok-zeros.ensures.keeps (omega (arith, c.len.ensures)) c.in_ok-zeros.ensures.zeros))
