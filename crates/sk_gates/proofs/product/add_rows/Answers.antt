use Rattle.std.proofs.Common.{◌*◌, ◌%◌, ◌^◌, arith, length, ap, ◌∙◌}
use Rattle.std.proofs.lemmas.List.{take_all}
use Rattle.sk_gates.specs.Words.{bits_word}
use Rattle.sk_gates.proofs.ExtensionLaws.{Continues-refl, Continues-trans, Continues-adds, on_err}
use Rattle.sk_gates.proofs.SharingLaws.{Builds-same, Builds-then, Builds-both, Builds-weaker}
use Rattle.sk_gates.proofs.BitLaws.{AreOver-later}
use Rattle.sk_gates.proofs.ProductLaws.{product_none, product_step}
use Rattle.sk_gates.proofs.product.add_rows.Goals as goal

pub loop-i-init : goal.loop-i-init
loop-i-init c = record {
  gate = Builds-same _ _ (λ v. c.in_ok-sum.ensures.value v ∙ product_none v c.args.a.now c.args.b.now);
  behind = Continues-refl _;
  long = c.in_ok-sum.ensures.length;
  a_within = c.requires.a;
  b_within = c.requires.b;
  sum_within = c.in_ok-sum.ensures.within _;
}

pub loop-i-preserved : goal.loop-i-preserved
loop-i-preserved c =
    let inv = c.loop-i.invariant in
    let first = c.in_ok-more.ensures.gate in
    let second = c.in_ok-next.ensures.gate in
    record {
      gate = Builds-then _ _ _ inv.gate (Builds-both _ _ first second) (λ v before p.
          product_step v c.args.a.now c.args.b.now c.loop-i.i _ _ _ _ _ _ (omega arith) (omega arith) inv.long c.bit_at-bit.ensures.bit c.as_slice.ensures c.as_slice-in-loop-i.ensures before p.0 p.1);
      behind = Continues-trans inv.behind (Continues-trans (Continues-adds first) (Continues-adds second));
      long = c.in_ok-next.ensures.length ∙ ap length c.as_slice.ensures ∙ inv.long;
      a_within = AreOver-later _ _ _ second.vars (AreOver-later _ _ _ first.vars inv.a_within);
      b_within = AreOver-later _ _ _ second.vars (AreOver-later _ _ _ first.vars inv.b_within);
      sum_within = c.in_ok-next.ensures.within;
    }

pub returns-clause-gate : goal.returns-clause-gate
returns-clause-gate c =
    let right = take_all c.loop-i.i c.args.b.now (omega arith) in
    Builds-weaker _ _ c.loop-i.invariant.gate (λ v h. h ∙ ap (λ bs. (bits_word v c.args.a.now * bits_word v bs) % 2 ^ length c.args.a.now) right)

pub returns-in_err-more-clause-err : goal.returns-in_err-more-clause-err
returns-in_err-more-clause-err c = on_err _ (Continues-trans c.loop-i.invariant.behind c.in_err-more.ensures.err)

pub returns-in_err-next-clause-err : goal.returns-in_err-next-clause-err
returns-in_err-next-clause-err c = on_err _ (Continues-trans c.loop-i.invariant.behind (Continues-trans (Continues-adds c.in_ok-more.ensures.gate) c.in_err-next.ensures.err))
