use Rattle.std.proofs.Common.{arith, ap, ◌∙◌}
use Rattle.std.proofs.lemmas.List.{take_all}
use Rattle.sk_gates.specs.Words.{bits_word}
use Rattle.sk_gates.proofs.DivisionLaws.{trimmed_step}
use Rattle.sk_gates.proofs.quotient.trimmed.Goals as goal

pub loop-i-preserved : goal.loop-i-preserved
loop-i-preserved c =
    let inv = c.loop-i.invariant in
    record {
      most = c.counted-count.ensures.most;
      value = λ v. trimmed_step v c.args.bits.now c.loop-i.i c.loop-i.count c.counted-count.result c.bit_at-bit.result (omega arith) c.bit_at-bit.ensures.bit inv.most c.counted-count.ensures.most c.counted-count.ensures.kept (inv.value v);
    }

pub returns-clause-value : goal.returns-clause-value
returns-clause-value c = λ v. ap (bits_word v) c.lowest.ensures.bits ∙ c.loop-i.invariant.value v ∙ ap (bits_word v) (take_all c.loop-i.i c.args.bits.now (omega arith))
