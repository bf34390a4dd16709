use Rattle.std.proofs.Common.{arith}
use Rattle.sk_dag.proofs.EvalLemmas.{Keeps-trans}
use Rattle.sk_sym_choices.proofs.Turns.{Keeps-refl, put_none, put_more}
use Rattle.sk_sym_choices.proofs.order.put_by.Goals as goal

pub loop-turn-init : goal.loop-turn-init
loop-turn-init c = record {
  keeps = Keeps-refl _;
  within = omega arith;
  put = rw c.new-made.ensures (put_none _ _ _ _);
}

pub loop-turn-preserved : goal.loop-turn-preserved
loop-turn-preserved c =
    let inv = c.loop-turn.invariant in
    record {
      keeps = Keeps-trans inv.keeps c.in_ok-next.ensures.keeps;
      within = omega (arith, c.loop-turn-test.true);
      put = rw c.in_ok-push.ensures.ok (put_more c.in_ok-next.next inv.put c.in_ok-next.ensures.keeps (omega (arith, c.loop-turn-test.true)) c.in_ok-next.ensures.there c.in_ok-next.ensures.value);
    }
