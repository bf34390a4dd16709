use Rattle.std.proofs.Common.{◌^◌, ap, ◌∙◌, sym}
use Rattle.sk_gates.specs.Words.{bits_word}
use Rattle.sk_gates.proofs.SharingLaws.{Builds-weaker}
use Rattle.sk_gates.proofs.EachLaws.{subtracted}
use Rattle.sk_gates.proofs.quotient.subtract_bits.Goals as goal

pub returns-clause-gate : goal.returns-clause-gate
returns-clause-gate c = Builds-weaker _ _ c.in_ok-r.ensures.gate (λ v sum.
    subtracted _ _ _ (bits_word v c.args.a.now) (bits_word v c.args.b.now) (bits_word v c.in_ok-opposite.opposite) _ sum (ap (bits_word v) c.as_slice.ensures) (c.in_ok-opposite.ensures.value v ∙ ap (λ k. 2 ^ k) (sym c.requires.lengths)))
