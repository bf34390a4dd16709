use Rattle.std.proofs.Common.{◌≡◌, ◌+◌, ◌-◌, ◌^◌, arith, length, ap, ◌∙◌}
use Rattle.std.proofs.lemmas.List.{length_push}
use Rattle.std.proofs.lemmas.Nat.{pow-add}
use Rattle.sk_gates.proofs.ExtensionLaws.{Continues-refl, Continues-trans, Continues-adds, on_err}
use Rattle.sk_gates.proofs.SharingLaws.{Builds-same, Builds-then}
use Rattle.sk_gates.proofs.BitLaws.{AreOver-later, AreOver-push}
use Rattle.sk_gates.proofs.EachLaws.{kept_step}
use Rattle.sk_gates.proofs.ProductLaws.{row_none}
use Rattle.sk_gates.proofs.product.row.Goals as goal

pub loop-i-init : goal.loop-i-init
loop-i-init c = record {
  gate = Builds-same _ _ (λ v. c.in_ok-moved.ensures.value v ∙ row_none v c.args.a.now c.args.bit c.args.shift);
  behind = Continues-refl _;
  long = omega (arith, c.in_ok-moved.ensures.length);
  a_within = c.requires.a;
  bit_within = c.requires.bit;
  moved_within = c.in_ok-moved.ensures.within _;
}

pub loop-i-preserved : goal.loop-i-preserved
loop-i-preserved c =
    let inv = c.loop-i.invariant in
    let step = c.in_ok-both.ensures.gate in
    record {
      gate = Builds-then _ _ _ inv.gate step (λ v before both. rw c.in_ok-push.ensures.ok
          (kept_step v c.loop-i.moved c.args.a.now c.loop-i.i (c.args.shift + c.loop-i.i) (2 ^ c.args.shift) _ _ c.args.bit inv.long (pow-add 2 c.args.shift c.loop-i.i) (omega arith) c.bit_at-x.ensures.bit both before));
      behind = Continues-trans inv.behind (Continues-adds step);
      long = ap length c.in_ok-push.ensures.ok ∙ length_push c.loop-i.moved c.in_ok-both.both ∙ omega (arith, inv.long);
      a_within = AreOver-later _ _ _ step.vars inv.a_within;
      bit_within = omega (arith, step.vars, inv.bit_within);
      moved_within = rw c.in_ok-push.ensures.ok (AreOver-push _ _ _ (AreOver-later _ _ _ step.vars inv.moved_within) c.in_ok-both.ensures.within);
    }

pub returns-clause-gate : goal.returns-clause-gate
returns-clause-gate c =
    let e : c.loop-i.i ≡ length c.args.a.now - c.args.shift = omega arith in
    rw (← e) c.loop-i.invariant.gate

pub returns-in_err-both-clause-err : goal.returns-in_err-both-clause-err
returns-in_err-both-clause-err c = on_err _ (Continues-trans c.loop-i.invariant.behind c.in_err-both.ensures.err)

pub returns-in_err-push-clause-err : goal.returns-in_err-push-clause-err
returns-in_err-push-clause-err c = on_err _ (Continues-trans c.loop-i.invariant.behind (Continues-adds c.in_ok-both.ensures.gate))
