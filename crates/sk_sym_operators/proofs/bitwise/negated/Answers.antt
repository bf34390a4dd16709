use Rattle.std.proofs.Common.{refl}
use Rattle.sk_sym_operators.proofs.EachBit.{negations_of, negated}
use Rattle.sk_sym_operators.proofs.bitwise.negated.Goals as goal

pub returns-clause-operated : goal.returns-clause-operated
returns-clause-operated c =
    negated c.args.dag.now.bits refl c.requires.bits
    (negations_of c.as_slice.ensures c.in_ok-made.ensures.negations) c.in_ok-fails.ensures.keeps c.in_ok-fails.ensures.there c.in_ok-fails.ensures.value
