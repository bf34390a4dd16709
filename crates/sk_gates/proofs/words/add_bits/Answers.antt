use Rattle.std.proofs.Common.{◌≡◌, ◌+◌, ◌-◌, arith, length, ap, ◌∙◌}
use Rattle.std.proofs.lemmas.List.{length_push, length-take-le}
use Rattle.sk_gates.specs.Bits.{bit_true, differ}
use Rattle.sk_gates.proofs.SharingLaws.{Builds-then}
use Rattle.sk_gates.proofs.BitLaws.{AreOver-later, AreOver-push}
use Rattle.sk_gates.proofs.WordLaws.{add_word, at}
use Rattle.sk_gates.proofs.words.add_bits.Goals as goal

pub returns-clause-length : goal.returns-clause-length
returns-clause-length c =
    ap length c.in_ok-push.ensures.ok ∙ length_push c.in_ok-sum.sum c.in_ok-top.top ∙ ap (λ n. n + 1) (c.in_ok-sum.ensures.length ∙ ap length c.lowest-a_low.ensures.bits ∙ length-take-le _ c.args.a.now (omega arith)) ∙ (let e : (length c.args.a.now - 1) + 1 ≡ length c.args.a.now = omega arith in e)

pub returns-clause-within : goal.returns-clause-within
returns-clause-within c = rw c.in_ok-push.ensures.ok (AreOver-push _ _ _ (AreOver-later _ _ _ c.in_ok-top.ensures.gate.vars c.in_ok-sum.ensures.sum_within) c.in_ok-top.ensures.within)

pub returns-clause-gate : goal.returns-clause-gate
returns-clause-gate c = Builds-then _ _ _ c.in_ok-sum.ensures.gate c.in_ok-top.ensures.gate (λ v before is.
    rw c.in_ok-push.ensures.ok
    (add_word v c.args.a.now c.args.b.now _ _ c.in_ok-sum.sum (length c.args.a.now - 1) c.args.carry c.in_ok-sum.next c.in_ok-top.top (omega arith) c.requires.lengths c.in_ok-sum.ensures.length c.lowest-a_low.ensures.bits c.lowest-b_low.ensures.bits before
    (is ∙ ap (λ x. differ (differ (bit_true v x) (bit_true v c.bit_at-y.result)) (bit_true v c.in_ok-sum.next)) c.bit_at-x.ensures.bit ∙ ap (λ x. differ (differ (bit_true v (at c.args.a.now (length c.args.a.now - 1))) (bit_true v x)) (bit_true v c.in_ok-sum.next)) c.bit_at-y.ensures.bit)))
