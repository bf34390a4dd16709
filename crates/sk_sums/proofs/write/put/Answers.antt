use Rattle.sk_sums.proofs.RootLemmas.{IsWorth-sum}
use Rattle.sk_sums.proofs.write.put.Goals as goal

pub returns-in_ok-r-in-Xor-clause-worth : goal.returns-in_ok-r-in-Xor-clause-worth
returns-in_ok-r-in-Xor-clause-worth c =
    rw c.in-Xor.is
    (IsWorth-sum c.in_ok-plain-in-Xor.plain c.in_ok-r-in-Xor.r c.int_bits-width.ensures.well_formed c.in_ok-plain-in-Xor.ensures.value c.anew.ensures.keeps c.in_ok-r-in-Xor.ensures.there c.in_ok-r-in-Xor.ensures.value)
