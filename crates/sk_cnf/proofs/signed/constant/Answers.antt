use Rattle.std.proofs.Common.{◌≡◌, ◌+◌, arith, length, ap, ◌∙◌}
use Rattle.std.proofs.lemmas.List.{length_push}
use Rattle.sk_gates.proofs.BitLaws.{AreOver-push}
use Rattle.sk_cnf.proofs.StepLaws.{given_none, given_step}
use Rattle.sk_cnf.proofs.signed.constant.Goals as goal

pub loop-k-init : goal.loop-k-init
loop-k-init c = record {
  long = ap length c.new-bits.ensures;
  within = λ n k d h. absurd (omega (arith, ap length c.new-bits.ensures));
  value = λ v. given_none v _ c.args.number c.new-bits.ensures;
}

pub loop-k-preserved : goal.loop-k-preserved
loop-k-preserved c =
    let inv = c.loop-k.invariant in
    record {
      long = ap length c.in_ok-push.ensures.ok ∙ length_push c.loop-k.bits _ ∙ ap (λ n. n + 1) inv.long;
      within = λ n. rw c.in_ok-push.ensures.ok (AreOver-push _ _ _ (inv.within n) (omega arith));
      value = λ v. rw c.in_ok-push.ensures.ok (given_step v c.loop-k.bits c.args.number c.loop-k.k _ inv.long c.digit_at-digit.ensures (inv.value v));
    }

pub returns-clause-value : goal.returns-clause-value
returns-clause-value c =
    let e : c.loop-k.k ≡ c.args.len = omega arith in
    λ v. rw (← e) (c.loop-k.invariant.value v)
