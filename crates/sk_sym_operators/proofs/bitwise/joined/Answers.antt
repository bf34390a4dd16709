use Rattle.std.proofs.Common.{refl}
use Rattle.sk_sym_operators.proofs.EachBit.{pairs_of, joined}
use Rattle.sk_sym_operators.proofs.bitwise.joined.Goals as goal

pub returns-clause-operated : goal.returns-clause-operated
returns-clause-operated c =
    joined c.args.dag.now.bits c.args.op c.requires.goes refl refl c.requires.x_bits c.requires.y_bits
    (pairs_of c.as_slice.ensures c.as_slice-2.ensures c.in_ok-made.ensures.pairs) c.in_ok-fails.ensures.keeps c.in_ok-fails.ensures.there c.in_ok-fails.ensures.value
