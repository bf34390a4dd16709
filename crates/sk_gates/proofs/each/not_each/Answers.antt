use Rattle.std.proofs.Common.{◌≡◌, ◌+◌, arith, length, ap, sym, ◌∙◌}
use Rattle.std.proofs.lemmas.List.{length_push, take_all}
use Rattle.sk_gates.specs.Words.{bits_word}
use Rattle.sk_gates.proofs.BitLaws.{AreOver-push}
use Rattle.sk_gates.proofs.EachLaws.{opposite_none, opposite_step}
use Rattle.sk_gates.proofs.each.not_each.Goals as goal

pub loop-i-init : goal.loop-i-init
loop-i-init c = record {
  long = ap length c.new-opposite.ensures;
  within = λ n h k d j. absurd (omega (arith, ap length c.new-opposite.ensures));
  value = λ v. opposite_none v _ c.args.bits.now c.new-opposite.ensures;
}

pub loop-i-preserved : goal.loop-i-preserved
loop-i-preserved c =
    let inv = c.loop-i.invariant in
    record {
      long = ap length c.in_ok-push.ensures.ok ∙ length_push c.loop-i.opposite _ ∙ ap (λ n. n + 1) inv.long;
      within = λ n h. rw c.in_ok-push.ensures.ok (AreOver-push _ _ _ (inv.within n h) (omega (arith, c.bit_at-bit.ensures.within n h, c.negate.ensures.within)));
      value = λ v. rw c.in_ok-push.ensures.ok (opposite_step v c.loop-i.opposite c.args.bits.now c.loop-i.i _ _ inv.long (omega arith) c.bit_at-bit.ensures.bit (c.negate.ensures.value v) (inv.value v));
    }

pub returns-clause-value : goal.returns-clause-value
returns-clause-value c =
    let e : c.loop-i.i ≡ length c.args.bits.now = omega arith in
    λ v. rw (← e) (sym (ap (λ bs. bits_word v c.loop-i.opposite + bits_word v bs + 1) (take_all c.loop-i.i c.args.bits.now (omega arith))) ∙ c.loop-i.invariant.value v)
