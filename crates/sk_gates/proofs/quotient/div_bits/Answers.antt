use Rattle.std.proofs.Common.{◌∙◌}
use Rattle.sk_gates.proofs.ExtensionLaws.{Continues-trans, Continues-adds, on_err}
use Rattle.sk_gates.proofs.SharingLaws.{Builds-then, Builds-both}
use Rattle.sk_gates.proofs.DivisionLaws.{division_said}
use Rattle.sk_gates.proofs.quotient.div_bits.Goals as goal

pub returns-clause-gate : goal.returns-clause-gate
returns-clause-gate c =
    Builds-then _ _ _ (Builds-both _ _ c.in_ok-tops.ensures.gate c.in_ok-quotient.ensures.gate) (Builds-both _ _ c.in_ok-kept.ensures.gate c.in_ok-rest.ensures.gate)
    (λ v p q.
    let said = division_said v c.args.a.now c.args.b.now c.trimmed-x.result.now c.trimmed-y.result.now c.in_ok-tops.tops _ _ c.in_ok-quotient.quotient c.in_ok-quotient.left _ _ c.in_ok-kept.kept c.in_ok-rest.rest c.bit_at.result c.negate-some.result
    (c.trimmed-x.ensures.value v) (c.trimmed-y.ensures.value v) c.as_slice.ensures c.as_slice-2.ensures c.as_slice-3.ensures c.as_slice-4.ensures c.bit_at.ensures.bit (c.negate-some.ensures.value v)
    p.0 p.1 q.0 q.1 in
    (c.in_ok-q.ensures.value v ∙ said.0, c.in_ok-r.ensures.value v ∙ said.1))

pub returns-in_err-rest-clause-err : goal.returns-in_err-rest-clause-err
returns-in_err-rest-clause-err c = on_err _ (Continues-trans (Continues-adds c.in_ok-tops.ensures.gate) (Continues-trans (Continues-adds c.in_ok-quotient.ensures.gate) (Continues-trans (Continues-adds c.in_ok-kept.ensures.gate) c.in_err-rest.ensures.err)))

pub returns-in_err-q-clause-err : goal.returns-in_err-q-clause-err
returns-in_err-q-clause-err c = on_err _ (Continues-trans (Continues-adds c.in_ok-tops.ensures.gate) (Continues-trans (Continues-adds c.in_ok-quotient.ensures.gate) (Continues-trans (Continues-adds c.in_ok-kept.ensures.gate) (Continues-adds c.in_ok-rest.ensures.gate))))

pub returns-in_err-r-clause-err : goal.returns-in_err-r-clause-err
returns-in_err-r-clause-err c = on_err _ (Continues-trans (Continues-adds c.in_ok-tops.ensures.gate) (Continues-trans (Continues-adds c.in_ok-quotient.ensures.gate) (Continues-trans (Continues-adds c.in_ok-kept.ensures.gate) (Continues-adds c.in_ok-rest.ensures.gate))))
