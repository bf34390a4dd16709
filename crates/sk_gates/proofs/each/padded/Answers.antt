use Rattle.std.proofs.Common.{◌+◌, arith, length, ap, ◌∙◌, refl}
use Rattle.std.proofs.lemmas.List.{length_push}
use Rattle.sk_gates.proofs.BitLaws.{AreOver-push}
use Rattle.sk_gates.proofs.EachLaws.{bits_zero}
use Rattle.sk_gates.proofs.each.padded.Goals as goal

pub loop-init : goal.loop-init
loop-init c = record {
  long = omega arith;
  most = omega arith;
  within = λ n h. h;
  value = λ v. refl;
}

pub loop-preserved : goal.loop-preserved
loop-preserved c =
    let inv = c.loop.invariant in
    record {
      long = ap length c.in_ok-push.ensures.ok ∙ length_push c.loop.padded _ ∙ ap (λ n. n + 1) inv.long;
      most = omega arith;
      within = λ n h. rw c.in_ok-push.ensures.ok (AreOver-push _ _ _ (inv.within n h) (omega arith));
      value = λ v. rw c.in_ok-push.ensures.ok (bits_zero v c.loop.padded ∙ inv.value v);
    }
