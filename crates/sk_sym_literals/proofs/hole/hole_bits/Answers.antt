use Rattle.std.proofs.Common.{◌≡◌, arith}
use Rattle.sk_dag.proofs.EvalLemmas.{Keeps-trans}
use Rattle.sk_sym_literals.proofs.Holes.{chosen_more, chosen_all}
use Rattle.sk_sym_literals.proofs.hole.hole_bits.Goals as goal

pub loop-k-preserved : goal.loop-k-preserved
loop-k-preserved c = record {
  keeps = Keeps-trans c.loop-k.invariant.keeps c.in_ok-one.ensures.keeps;
  chosen = rw c.in_ok-push.ensures.ok (chosen_more c.args.dag.now.bits c.loop-k.k c.args.site c.loop-k.made c.loop-k.invariant.chosen c.in_ok-one.ensures.keeps c.in_ok-one.ensures.chosen);
}

pub returns-clause-chosen : goal.returns-clause-chosen
returns-clause-chosen c =
    let whole : c.loop-k.k ≡ c.args.count = omega (arith, c.loop-k-test.false, c.loop-k.auto.k-end) in
    chosen_all c.args.dag.now.bits c.args.site whole c.loop-k.invariant.chosen
