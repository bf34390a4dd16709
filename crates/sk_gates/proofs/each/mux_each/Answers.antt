use Rattle.std.proofs.Common.{◌+◌, arith, length, ap, ◌∙◌, if◌then◌else◌}
use Rattle.std.proofs.lemmas.List.{length_push, take_all}
use Rattle.sk_gates.specs.Bits.{bit_true}
use Rattle.sk_gates.specs.Words.{bits_word}
use Rattle.sk_gates.proofs.ExtensionLaws.{Continues-refl, Continues-trans, Continues-adds, on_err}
use Rattle.sk_gates.proofs.SharingLaws.{Builds-same, Builds-then, Builds-weaker}
use Rattle.sk_gates.proofs.BitLaws.{AreOver-later, AreOver-push}
use Rattle.sk_gates.proofs.EachLaws.{chosen_none, chosen_step}
use Rattle.sk_gates.proofs.each.mux_each.Goals as goal

pub loop-i-init : goal.loop-i-init
loop-i-init c = record {
  gate = Builds-same _ _ (λ v. chosen_none v _ c.args.a.now c.args.b.now c.args.condition c.new-chosen.ensures);
  behind = Continues-refl _;
  long = ap length c.new-chosen.ensures;
  condition_within = c.requires.condition;
  a_within = c.requires.a;
  b_within = c.requires.b;
  chosen_within = λ k d h. absurd (omega (arith, ap length c.new-chosen.ensures));
}

pub loop-i-preserved : goal.loop-i-preserved
loop-i-preserved c =
    let inv = c.loop-i.invariant in
    let step = c.in_ok-either.ensures.gate in
    record {
      gate = Builds-then _ _ _ inv.gate step (λ v before is. rw c.in_ok-push.ensures.ok
          (chosen_step v c.loop-i.chosen c.args.a.now c.args.b.now c.loop-i.i _ _ _ c.args.condition inv.long (omega arith) (omega arith) c.bit_at-x.ensures.bit c.bit_at-y.ensures.bit is before));
      behind = Continues-trans inv.behind (Continues-adds step);
      long = ap length c.in_ok-push.ensures.ok ∙ length_push c.loop-i.chosen c.in_ok-either.either ∙ ap (λ n. n + 1) inv.long;
      condition_within = omega (arith, step.vars, inv.condition_within);
      a_within = AreOver-later _ _ _ step.vars inv.a_within;
      b_within = AreOver-later _ _ _ step.vars inv.b_within;
      chosen_within = rw c.in_ok-push.ensures.ok (AreOver-push _ _ _ (AreOver-later _ _ _ step.vars inv.chosen_within) c.in_ok-either.ensures.within);
    }

pub returns-clause-gate : goal.returns-clause-gate
returns-clause-gate c =
    let left = take_all c.loop-i.i c.args.a.now (omega arith) in
    let right = take_all c.loop-i.i c.args.b.now (omega arith) in
    Builds-weaker _ _ c.loop-i.invariant.gate (λ v h. h ∙ (λ j. if bit_true v c.args.condition then bits_word v (left j) else bits_word v (right j)))

pub returns-in_err-either-clause-err : goal.returns-in_err-either-clause-err
returns-in_err-either-clause-err c = on_err _ (Continues-trans c.loop-i.invariant.behind c.in_err-either.ensures.err)

pub returns-in_err-push-clause-err : goal.returns-in_err-push-clause-err
returns-in_err-push-clause-err c = on_err _ (Continues-trans c.loop-i.invariant.behind (Continues-adds c.in_ok-either.ensures.gate))
