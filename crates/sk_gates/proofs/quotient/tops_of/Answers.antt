use Rattle.std.proofs.Common.{◌+◌, arith, length, ap, ◌∙◌, false}
use Rattle.std.proofs.lemmas.List.{length_push, get_or_push}
use Rattle.sk_gates.specs.declared.bit.Bit.TheVariants.{Constant}
use Rattle.sk_gates.proofs.ExtensionLaws.{Continues-refl, Continues-trans, Continues-adds, on_err}
use Rattle.sk_gates.proofs.SharingLaws.{Builds-same, Builds-then}
use Rattle.sk_gates.proofs.BitLaws.{AreOver-later, AreOver-push}
use Rattle.sk_gates.proofs.WordLaws.{at}
use Rattle.sk_gates.proofs.DivisionLaws.{tops_none, tops_step}
use Rattle.sk_gates.proofs.quotient.tops_of.Goals as goal

pub loop-k-init : goal.loop-k-init
loop-k-init c =
    let tops = c.in_ok-push.ensures.ok in
    record {
      gate = Builds-same _ _ (λ v. tops_none v c.args.bits.now _ _ c.new-tops.ensures tops);
      last = ap (λ z. at z 0) tops ∙ get_or_push c.new-tops.result _ (Constant false) 0 (ap length c.new-tops.ensures);
      behind = Continues-refl _;
      long = ap length tops ∙ length_push c.new-tops.result _ ∙ ap (λ z. length z + 1) c.new-tops.ensures;
      bits_within = c.requires;
      clear_within = omega arith;
      tops_within = rw tops (AreOver-push _ _ _ (λ k d h. absurd (omega (arith, ap length c.new-tops.ensures))) (omega arith));
    }

pub loop-k-preserved : goal.loop-k-preserved
loop-k-preserved c =
    let inv = c.loop-k.invariant in
    let step = c.in_ok-more.ensures.gate in
    let pushed = c.in_ok-push-2.ensures.ok in
    record {
      gate = Builds-then _ _ _ inv.gate step (λ v before is. tops_step v c.args.bits.now c.loop-k.tops _ c.loop-k.k c.loop-k.clear c.bit_at-x.result c.negate.result c.in_ok-more.more (omega arith) inv.long pushed inv.last c.bit_at-x.ensures.bit (c.negate.ensures.value v) is before);
      last = ap (λ z. at z (c.loop-k.k + 1)) pushed ∙ get_or_push c.loop-k.tops c.in_ok-more.more (Constant false) (c.loop-k.k + 1) inv.long;
      behind = Continues-trans inv.behind (Continues-adds step);
      long = ap length pushed ∙ length_push c.loop-k.tops c.in_ok-more.more ∙ ap (λ n. n + 1) inv.long;
      bits_within = AreOver-later _ _ _ step.vars inv.bits_within;
      clear_within = c.in_ok-more.ensures.within;
      tops_within = rw pushed (AreOver-push _ _ _ (AreOver-later _ _ _ step.vars inv.tops_within) c.in_ok-more.ensures.within);
    }

pub returns-in_err-more-clause-err : goal.returns-in_err-more-clause-err
returns-in_err-more-clause-err c = on_err _ (Continues-trans c.loop-k.invariant.behind c.in_err-more.ensures.err)

pub returns-in_err-push-2-clause-err : goal.returns-in_err-push-2-clause-err
returns-in_err-push-2-clause-err c = on_err _ (Continues-trans c.loop-k.invariant.behind (Continues-adds c.in_ok-more.ensures.gate))
