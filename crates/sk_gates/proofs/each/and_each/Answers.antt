use Rattle.std.proofs.Common.{◌+◌, ◌*◌, arith, length, ap, ◌∙◌}
use Rattle.std.proofs.lemmas.List.{length_push, take_all}
use Rattle.sk_gates.specs.Bits.{bit_true}
use Rattle.sk_gates.specs.Words.{digit, bits_word}
use Rattle.sk_gates.proofs.ExtensionLaws.{Continues-refl, Continues-trans, Continues-adds, on_err}
use Rattle.sk_gates.proofs.SharingLaws.{Builds-same, Builds-then, Builds-weaker}
use Rattle.sk_gates.proofs.BitLaws.{AreOver-later, AreOver-push}
use Rattle.sk_gates.proofs.EachLaws.{kept_none, kept_step}
use Rattle.sk_gates.proofs.each.and_each.Goals as goal

pub loop-i-init : goal.loop-i-init
loop-i-init c = record {
  gate = Builds-same _ _ (λ v. kept_none v _ c.args.bits.now c.args.bit c.new-kept.ensures);
  behind = Continues-refl _;
  long = ap length c.new-kept.ensures;
  bits_within = c.requires.bits;
  bit_within = c.requires.bit;
  kept_within = λ k d h. absurd (omega (arith, ap length c.new-kept.ensures));
}

pub loop-i-preserved : goal.loop-i-preserved
loop-i-preserved c =
    let inv = c.loop-i.invariant in
    let step = c.in_ok-both.ensures.gate in
    record {
      gate = Builds-then _ _ _ inv.gate step (λ v before both. rw c.in_ok-push.ensures.ok
          (kept_step v c.loop-i.kept c.args.bits.now c.loop-i.i c.loop-i.i 1 _ _ c.args.bit inv.long (omega arith) (omega arith) c.bit_at-x.ensures.bit both (before ∙ omega arith) ∙ omega arith));
      behind = Continues-trans inv.behind (Continues-adds step);
      long = ap length c.in_ok-push.ensures.ok ∙ length_push c.loop-i.kept c.in_ok-both.both ∙ ap (λ n. n + 1) inv.long;
      bits_within = AreOver-later _ _ _ step.vars inv.bits_within;
      bit_within = omega (arith, step.vars, inv.bit_within);
      kept_within = rw c.in_ok-push.ensures.ok (AreOver-push _ _ _ (AreOver-later _ _ _ step.vars inv.kept_within) c.in_ok-both.ensures.within);
    }

pub returns-clause-gate : goal.returns-clause-gate
returns-clause-gate c =
    Builds-weaker _ _ c.loop-i.invariant.gate (λ v h. h ∙ ap (λ bs. digit (bit_true v c.args.bit) * bits_word v bs) (take_all c.loop-i.i c.args.bits.now (omega arith)))

pub returns-in_err-both-clause-err : goal.returns-in_err-both-clause-err
returns-in_err-both-clause-err c = on_err _ (Continues-trans c.loop-i.invariant.behind c.in_err-both.ensures.err)

pub returns-in_err-push-clause-err : goal.returns-in_err-push-clause-err
returns-in_err-push-clause-err c = on_err _ (Continues-trans c.loop-i.invariant.behind (Continues-adds c.in_ok-both.ensures.gate))
