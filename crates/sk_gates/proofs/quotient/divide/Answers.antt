use Rattle.std.proofs.Common.{◌≡◌, ◌-◌, arith, length, ap, ◌∙◌}
use Rattle.std.proofs.lemmas.List.{length-set}
use Rattle.sk_gates.proofs.ExtensionLaws.{Continues-refl, Continues-trans, Continues-adds}
use Rattle.sk_gates.proofs.SharingLaws.{Builds-same, Builds-then}
use Rattle.sk_gates.proofs.BitLaws.{AreOver-later}
use Rattle.sk_gates.proofs.DivisionLaws.{divided_none, divided_more, AreOver-set}
use Rattle.sk_gates.proofs.quotient.divide.Goals as goal

pub loop-k-init : goal.loop-k-init
loop-k-init c = record {
  gate = Builds-same _ _ (λ v tops some. divided_none v c.args.a.now c.in_ok-quotient.quotient _ c.args.divisor.now c.in_ok-quotient.ensures.length c.new-left.ensures some);
  behind = Continues-refl _;
  quotient_long = c.in_ok-quotient.ensures.length;
  left_short = omega (arith, ap length c.new-left.ensures);
  left_fits = omega (arith, ap length c.new-left.ensures);
  a_within = c.requires.a;
  divisor_within = c.requires.divisor;
  tops_within = c.requires.tops;
  quotient_within = c.in_ok-quotient.ensures.within _;
  left_within = λ k d h. absurd (omega (arith, ap length c.new-left.ensures));
}

pub loop-k-preserved : goal.loop-k-preserved
loop-k-preserved c =
    let inv = c.loop-k.invariant in
    let step = c.in_ok-digit.ensures.gate in
    record {
      gate = Builds-then _ _ _ inv.gate step (λ v before is tops some.
          divided_more v c.args.a.now c.args.divisor.now c.loop-k.quotient _ c.loop-k.left _ _ _ _ c.loop-k.k (omega arith) inv.quotient_long c.bit_at-x.ensures.bit c.as_slice.ensures c.set.ensures (before tops some) (is tops));
      behind = Continues-trans inv.behind (Continues-adds step);
      quotient_long = ap length c.set.ensures ∙ length-set c.loop-k.quotient _ _ ∙ inv.quotient_long;
      left_short = omega (arith, c.in_ok-digit.ensures.one, ap length c.as_slice.ensures, inv.left_short);
      left_fits = c.in_ok-digit.ensures.short;
      a_within = AreOver-later _ _ _ step.vars inv.a_within;
      divisor_within = AreOver-later _ _ _ step.vars inv.divisor_within;
      tops_within = AreOver-later _ _ _ step.vars inv.tops_within;
      quotient_within = rw c.set.ensures (AreOver-set _ c.loop-k.quotient _ _ (AreOver-later _ _ _ step.vars inv.quotient_within) c.in_ok-digit.ensures.digit_within);
      left_within = c.in_ok-digit.ensures.left_within;
    }

pub returns-clause-gate : goal.returns-clause-gate
returns-clause-gate c =
    let e : length c.args.a.now - c.loop-k.k ≡ 0 = omega arith in
    rw e at c.loop-k.invariant.gate
