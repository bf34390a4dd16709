use Rattle.std.proofs.Common.{subst}
use Rattle.sk_arr.specs.Bits.{IsSum}
use Rattle.sk_arr.proofs.bits.add_bits.Goals as goal

pub returns-clause-sum : goal.returns-clause-sum
returns-clause-sum c =
    subst (λ l. IsSum c.sum_of.new.dag l c.args.b.now c.in_ok-made.made) c.as_slice.ensures
    (subst (λ l. IsSum c.sum_of.new.dag c.as_slice.result.now l c.in_ok-made.made) c.as_slice-2.ensures c.in_ok-made.ensures.sum)
