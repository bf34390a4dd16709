use Rattle.std.proofs.Common.{◌≡◌, ◌+◌, arith, length, ap, map, ◌∙◌}
use Rattle.std.proofs.lemmas.List.{length_push}
use Rattle.sk_gates.proofs.BitLaws.{AreOver-push}
use Rattle.sk_cnf.specs.Leaves.{leaf_bit, with_bit}
use Rattle.sk_cnf.proofs.StepLaws.{leaves_none, leaves_step}
use Rattle.sk_cnf.proofs.leaves.leaf_word.Goals as goal

pub loop-k-init : goal.loop-k-init
loop-k-init c = record {
  long = ap length c.new-bits.ensures;
  within = λ n w k d h. absurd (omega (arith, ap length c.new-bits.ensures));
  value = λ v. leaves_none v _ (λ k. leaf_bit c.args.leaves.now.keys (map v c.args.names.now) (with_bit c.args.leaf k)) c.new-bits.ensures;
}

pub loop-k-preserved : goal.loop-k-preserved
loop-k-preserved c =
    let inv = c.loop-k.invariant in
    record {
      long = ap length c.in_ok-push.ensures.ok ∙ length_push c.loop-k.bits _ ∙ ap (λ n. n + 1) inv.long;
      within = λ n w. rw c.in_ok-push.ensures.ok (AreOver-push _ _ _ (inv.within n w) (c.leaf_literal-bit.ensures.within n w));
      value = λ v. rw c.in_ok-push.ensures.ok (leaves_step v c.loop-k.bits (λ k. leaf_bit c.args.leaves.now.keys (map v c.args.names.now) (with_bit c.args.leaf k)) c.loop-k.k _ inv.long
          (c.leaf_literal-bit.ensures.value v ∙ ap (leaf_bit c.args.leaves.now.keys (map v c.args.names.now)) c.at_bit.ensures) (inv.value v));
    }

pub returns-clause-value : goal.returns-clause-value
returns-clause-value c =
    let e : c.loop-k.k ≡ c.args.len = omega arith in
    λ v. rw (← e) (c.loop-k.invariant.value v)
