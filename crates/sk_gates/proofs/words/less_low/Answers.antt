use Rattle.std.proofs.Common.{arith, ◌∙◌, nat_lt}
use Rattle.std.proofs.lemmas.List.{take_all}
use Rattle.sk_gates.specs.Words.{bits_word}
use Rattle.sk_gates.proofs.ExtensionLaws.{Continues-refl, Continues-trans, Continues-adds, on_err}
use Rattle.sk_gates.proofs.SharingLaws.{Builds-same, Builds-then, Builds-both, Builds-weaker}
use Rattle.sk_gates.proofs.BitLaws.{AreOver-later}
use Rattle.sk_gates.proofs.WordLaws.{less_step, nothing_below}
use Rattle.sk_gates.proofs.words.less_low.Goals as goal

pub loop-i-init : goal.loop-i-init
loop-i-init c = record {
  gate = Builds-same _ _ (λ v. nothing_below v c.args.a.now c.args.b.now);
  behind = Continues-refl _;
  a_within = c.requires.a;
  b_within = c.requires.b;
  below_within = omega arith;
}

pub loop-i-preserved : goal.loop-i-preserved
loop-i-preserved c =
    let inv = c.loop-i.invariant in
    let first = c.in_ok-apart.ensures.gate in
    let second = c.in_ok-below.ensures.gate in
    record {
      gate = Builds-then _ _ _ inv.gate (Builds-both _ _ first second) (λ v before p.
          less_step v c.args.a.now c.args.b.now c.loop-i.i c.loop-i.below c.in_ok-apart.apart c.in_ok-below.below _ _ (omega arith) (omega arith) c.bit_at-x.ensures.bit c.bit_at-y.ensures.bit before p.0 p.1);
      behind = Continues-trans inv.behind (Continues-trans (Continues-adds first) (Continues-adds second));
      a_within = AreOver-later _ _ _ second.vars (AreOver-later _ _ _ first.vars inv.a_within);
      b_within = AreOver-later _ _ _ second.vars (AreOver-later _ _ _ first.vars inv.b_within);
      below_within = c.in_ok-below.ensures.within;
    }

pub returns-clause-gate : goal.returns-clause-gate
returns-clause-gate c =
    let left = take_all c.loop-i.i c.args.a.now (omega arith) in
    let right = take_all c.loop-i.i c.args.b.now (omega arith) in
    Builds-weaker _ _ c.loop-i.invariant.gate (λ v h. h ∙ (λ j. nat_lt (bits_word v (left j)) (bits_word v (right j))))

pub returns-in_err-apart-clause-err : goal.returns-in_err-apart-clause-err
returns-in_err-apart-clause-err c = on_err _ (Continues-trans c.loop-i.invariant.behind c.in_err-apart.ensures.err)

pub returns-in_err-below-clause-err : goal.returns-in_err-below-clause-err
returns-in_err-below-clause-err c = on_err _ (Continues-trans c.loop-i.invariant.behind (Continues-trans (Continues-adds c.in_ok-apart.ensures.gate) c.in_err-below.ensures.err))
