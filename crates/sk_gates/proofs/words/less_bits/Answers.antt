use Rattle.std.proofs.Common.{◌-◌, arith, length}
use Rattle.sk_gates.proofs.SharingLaws.{Builds-then, Builds-both}
use Rattle.sk_gates.proofs.WordLaws.{less_word}
use Rattle.sk_gates.proofs.words.less_bits.Goals as goal

pub returns-clause-gate : goal.returns-clause-gate
returns-clause-gate c = Builds-then _ _ _ c.in_ok-below.ensures.gate (Builds-both _ _ c.in_ok-apart.ensures.gate c.in_ok-r.ensures.gate) (λ v under p.
    less_word v c.args.a.now c.args.b.now _ _ (length c.args.a.now - 1) c.args.signed c.in_ok-below.below c.in_ok-apart.apart c.in_ok-r.r _ _ _ (omega arith) c.requires.lengths c.lowest-a_low.ensures.bits c.lowest-b_low.ensures.bits under
    c.bit_at-x.ensures.bit c.bit_at-y.ensures.bit p.0 c.pick-top.ensures p.1)
