use Rattle.std.proofs.Common.{◌+◌, ◌*◌, ◌<◌, length, ap, ◌∙◌, min}
use Rattle.sk_gates.specs.Bits.{bit_true}
use Rattle.sk_gates.specs.Words.{digit, bits_word}
use Rattle.sk_gates.specs.Division.{AreTops, IsDivided}
use Rattle.sk_gates.proofs.ExtensionLaws.{Continues-trans, Continues-adds, on_err}
use Rattle.sk_gates.proofs.SharingLaws.{Builds-same, Builds-then, Builds-both}
use Rattle.sk_gates.proofs.BitLaws.{AreOver-later}
use Rattle.sk_gates.proofs.DivisionLaws.{divided_step, divided_shut, AreOver-same}
use Rattle.sk_gates.proofs.quotient.divide_step.Goals as goal

pub or-requires-clause-b : goal.or-requires-clause-b
or-requires-clause-b c =
    c.bit_or_false-over.ensures.within _ (AreOver-same _ _ _ c.as_slice-2.ensures (AreOver-later _ _ _ c.in_ok-difference.ensures.gate.vars (c.in_ok-taken.ensures.within _ c.requires.next c.requires.left)))

pub mux_each-requires-clause-b : goal.mux_each-requires-clause-b
mux_each-requires-clause-b c =
    AreOver-later _ _ _ c.in_ok-digit.ensures.gate.vars (AreOver-later _ _ _ c.in_ok-enough.ensures.gate.vars (AreOver-later _ _ _ c.in_ok-difference.ensures.gate.vars
    (c.lowest-from.ensures.within _ (AreOver-same _ _ _ c.as_slice.ensures (c.in_ok-taken.ensures.within _ c.requires.next c.requires.left)))))

pub returns-clause-gate : goal.returns-clause-gate
returns-clause-gate c =
    Builds-then _ _ _ (Builds-both _ _ c.in_ok-difference.ensures.gate c.in_ok-enough.ensures.gate) (Builds-both _ _ c.in_ok-digit.ensures.gate c.in_ok-rest.ensures.gate)
    (λ v p q tops below.
    divided_step v c.args.left.now c.args.divisor.now c.args.tops.now c.in_ok-taken.taken _ _ _ c.lowest-from.result.now c.lowest-lower.result.now c.in_ok-difference.difference c.in_ok-rest.rest
    c.args.next c.in_ok-difference.fits c.bit_or_false-over.result c.in_ok-enough.enough c.bit_at-clear.result c.in_ok-digit.digit c.lesser-low.result
    c.requires.short c.in_ok-taken.ensures.length (c.lesser-low.ensures ∙ ap (λ k. min k (length c.args.divisor.now)) c.len.ensures) (c.in_ok-taken.ensures.value v)
    c.as_slice.ensures c.as_slice-2.ensures c.as_slice-3.ensures c.lowest-from.ensures.bits c.lowest-lower.ensures.bits c.in_ok-difference.ensures.length c.bit_or_false-over.ensures.bit c.bit_at-clear.ensures.bit
    p.0 p.1 q.0 q.1 tops below)

pub returns-then-is_false-clause-gate : goal.returns-then-is_false-clause-gate
returns-then-is_false-clause-gate c =
    Builds-same _ (λ v. AreTops v c.args.divisor.now c.args.tops.now → bits_word v c.args.left.now < bits_word v c.args.divisor.now
    → IsDivided (digit (bit_true v c.args.next) + 2 * bits_word v c.args.left.now) (bits_word v c.args.divisor.now) (digit (bit_true v c.bit_at-clear.result)) (bits_word v c.in_ok-unchanged.unchanged))
    (λ v tops below.
    divided_shut v c.args.left.now c.args.divisor.now c.args.tops.now c.in_ok-taken.taken _ c.lowest-from.result.now c.in_ok-unchanged.unchanged c.args.next c.bit_at-clear.result c.lesser-low.result
    c.requires.short c.in_ok-taken.ensures.length (c.lesser-low.ensures ∙ ap (λ k. min k (length c.args.divisor.now)) c.len.ensures) (c.in_ok-taken.ensures.value v)
    c.as_slice.ensures c.lowest-from.ensures.bits c.in_ok-unchanged.ensures c.bit_at-clear.ensures.bit (c.is_false.ensures c.if-is_false.true) tops)

pub returns-in_err-rest-clause-err : goal.returns-in_err-rest-clause-err
returns-in_err-rest-clause-err c = on_err _ (Continues-trans (Continues-adds c.in_ok-difference.ensures.gate) (Continues-trans (Continues-adds c.in_ok-enough.ensures.gate) (Continues-trans (Continues-adds c.in_ok-digit.ensures.gate) c.in_err-rest.ensures.err)))
