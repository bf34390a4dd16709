use Rattle.std.proofs.Common.{◌≡◌, ◌+◌, ◌-◌, ◌^◌, arith, length, ap, ◌∙◌, if◌then◌else◌}
use Rattle.std.proofs.lemmas.List.{length_push, take_all}
use Rattle.sk_gates.specs.Bits.{bit_true}
use Rattle.sk_gates.specs.Words.{bits_word}
use Rattle.sk_gates.proofs.ExtensionLaws.{Continues-refl, Continues-trans, Continues-adds, on_err}
use Rattle.sk_gates.proofs.SharingLaws.{Builds-same, Builds-then, Builds-weaker}
use Rattle.sk_gates.proofs.BitLaws.{AreOver-later, AreOver-push}
use Rattle.sk_cnf.proofs.StepLaws.{flip_none, flip_step}
use Rattle.sk_cnf.proofs.signed.flip_each.Goals as goal

pub loop-i-init : goal.loop-i-init
loop-i-init c = record {
  gate = Builds-same _ _ (λ v. flip_none v _ c.args.bits.now c.args.when c.new-flipped.ensures);
  behind = Continues-refl _;
  long = ap length c.new-flipped.ensures;
  bits_within = c.requires.bits;
  when_within = c.requires.when;
  flipped_within = λ k d h. absurd (omega (arith, ap length c.new-flipped.ensures));
}

pub loop-i-preserved : goal.loop-i-preserved
loop-i-preserved c =
    let inv = c.loop-i.invariant in
    let step = c.in_ok-either.ensures.gate in
    record {
      gate = Builds-then _ _ _ inv.gate step (λ v before is. rw c.in_ok-push.ensures.ok
          (flip_step v c.loop-i.flipped c.args.bits.now c.loop-i.i _ _ c.args.when inv.long (omega arith) c.bit_at-x.ensures.bit is before));
      behind = Continues-trans inv.behind (Continues-adds step);
      long = ap length c.in_ok-push.ensures.ok ∙ length_push c.loop-i.flipped c.in_ok-either.either ∙ ap (λ n. n + 1) inv.long;
      bits_within = AreOver-later _ _ _ step.vars inv.bits_within;
      when_within = omega (arith, step.vars, inv.when_within);
      flipped_within = rw c.in_ok-push.ensures.ok (AreOver-push _ _ _ (AreOver-later _ _ _ step.vars inv.flipped_within) c.in_ok-either.ensures.within);
    }

pub returns-clause-gate : goal.returns-clause-gate
returns-clause-gate c =
    let e : c.loop-i.i ≡ length c.args.bits.now = omega arith in
    let all = take_all c.loop-i.i c.args.bits.now (omega arith) in
    Builds-weaker _ _ c.loop-i.invariant.gate (λ v h. rw (← e) (h ∙ (λ j. if bit_true v c.args.when then 2 ^ c.loop-i.i - 1 - bits_word v (all j) else bits_word v (all j))))

pub returns-in_err-either-clause-err : goal.returns-in_err-either-clause-err
returns-in_err-either-clause-err c = on_err _ (Continues-trans c.loop-i.invariant.behind c.in_err-either.ensures.err)

pub returns-in_err-push-clause-err : goal.returns-in_err-push-clause-err
returns-in_err-push-clause-err c = on_err _ (Continues-trans c.loop-i.invariant.behind (Continues-adds c.in_ok-either.ensures.gate))
