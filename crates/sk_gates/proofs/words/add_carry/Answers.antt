use Rattle.std.proofs.Common.{◌≡◌, ◌+◌, ◌^◌, arith, length, ap, take, ◌∙◌}
use Rattle.std.proofs.lemmas.List.{length_push, take_all}
use Rattle.sk_gates.specs.Bits.{bit_true}
use Rattle.sk_gates.specs.Words.{digit, bits_word}
use Rattle.sk_gates.proofs.ExtensionLaws.{Continues-refl, Continues-trans, Continues-adds, on_err}
use Rattle.sk_gates.proofs.SharingLaws.{Builds-same, Builds-then, Builds-weaker}
use Rattle.sk_gates.proofs.BitLaws.{AreOver-later, AreOver-push}
use Rattle.sk_gates.proofs.WordLaws.{bits_push, bits_more, sum_step, power_more, at, nothing_summed}
use Rattle.sk_gates.proofs.words.add_carry.Goals as goal

pub loop-i-init : goal.loop-i-init
loop-i-init c = record {
  gate = Builds-same _ _ (λ v. nothing_summed v _ c.args.a.now c.args.b.now c.args.carry c.new-sum.ensures);
  behind = Continues-refl _;
  long = ap length c.new-sum.ensures;
  a_within = c.requires.a;
  b_within = c.requires.b;
  sum_within = λ k d h. absurd (omega (arith, ap length c.new-sum.ensures));
  next_within = c.requires.carry;
}

pub loop-i-preserved : goal.loop-i-preserved
loop-i-preserved c =
    let inv = c.loop-i.invariant in
    let step = c.in_ok-digit.ensures.gate in
    record {
      gate = Builds-then _ _ _ inv.gate step (λ v before row.
          let i = c.loop-i.i in
          rw (c.in_ok-push.ensures.ok, bits_push v c.loop-i.sum c.in_ok-digit.digit, inv.long, bits_more v c.args.a.now i (omega arith), bits_more v c.args.b.now i (omega arith))
          (sum_step (2 ^ i) (2 ^ (i + 1)) (bits_word v c.loop-i.sum) (bits_word v (take i c.args.a.now)) (bits_word v (take i c.args.b.now)) (digit (bit_true v c.args.carry))
          (digit (bit_true v c.in_ok-digit.digit)) (digit (bit_true v c.in_ok-digit.after)) (digit (bit_true v (at c.args.a.now i))) (digit (bit_true v (at c.args.b.now i))) (digit (bit_true v c.loop-i.next)) (power_more i) before
          (row ∙ ap (λ x. digit (bit_true v x) + digit (bit_true v c.bit_at-y.result) + digit (bit_true v c.loop-i.next)) c.bit_at-x.ensures.bit ∙ ap (λ x. digit (bit_true v (at c.args.a.now i)) + digit (bit_true v x) + digit (bit_true v c.loop-i.next)) c.bit_at-y.ensures.bit)));
      behind = Continues-trans inv.behind (Continues-adds step);
      long = ap length c.in_ok-push.ensures.ok ∙ length_push c.loop-i.sum c.in_ok-digit.digit ∙ ap (λ n. n + 1) inv.long;
      a_within = AreOver-later _ _ _ step.vars inv.a_within;
      b_within = AreOver-later _ _ _ step.vars inv.b_within;
      sum_within = rw c.in_ok-push.ensures.ok (AreOver-push _ _ _ (AreOver-later _ _ _ step.vars inv.sum_within) c.in_ok-digit.ensures.sum_within);
      next_within = c.in_ok-digit.ensures.carry_within;
    }

pub returns-clause-gate : goal.returns-clause-gate
returns-clause-gate c =
    let e : c.loop-i.i ≡ length c.args.a.now = omega arith in
    let left = take_all c.loop-i.i c.args.a.now (omega arith) in
    let right = take_all c.loop-i.i c.args.b.now (omega arith) in
    Builds-weaker _ _ c.loop-i.invariant.gate (λ v h. rw (← e) (h ∙ (λ j. bits_word v (left j) + bits_word v (right j) + digit (bit_true v c.args.carry))))

pub returns-in_err-digit-clause-err : goal.returns-in_err-digit-clause-err
returns-in_err-digit-clause-err c = on_err _ (Continues-trans c.loop-i.invariant.behind c.in_err-digit.ensures.err)

pub returns-in_err-push-clause-err : goal.returns-in_err-push-clause-err
returns-in_err-push-clause-err c = on_err _ (Continues-trans c.loop-i.invariant.behind (Continues-adds c.in_ok-digit.ensures.gate))
