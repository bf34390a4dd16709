use Rattle.std.proofs.Common.{arith}
use Rattle.sk_dag.proofs.EvalLemmas.{Keeps-trans}
use Rattle.sk_arr.proofs.Makers.{Keeps-refl}
use Rattle.sk_arr.proofs.Standing.{Stands-keeps}
use Rattle.sk_arr.proofs.Choices.{stand_at}
use Rattle.sk_sym_operators.proofs.EachBit.{bit_there, negations_none, negations_more, negations_done}
use Rattle.sk_sym_operators.proofs.bitwise.negations.Goals as goal

pub loop-a-init : goal.loop-a-init
loop-a-init c = record {
  keeps = Keeps-refl _;
  within = omega arith;
  negations = rw c.new-made.ensures (negations_none c.args.dag.now c.args.x.now);
}

pub negation-requires-clause-stands : goal.negation-requires-clause-stands
negation-requires-clause-stands c = Stands-keeps c.loop-a.invariant.keeps (stand_at c.args.x.now c.loop-a.a-index c.a-item.result c.loop-a-test.true c.a-item.is c.requires.stand)

pub negation-requires-clause-bit : goal.negation-requires-clause-bit
negation-requires-clause-bit c = bit_there c.args.x.now c.loop-a.a-index c.a-item.result c.loop-a-test.true c.a-item.is c.requires.bits

pub loop-a-preserved : goal.loop-a-preserved
loop-a-preserved c =
    let inv = c.loop-a.invariant in
    record {
      keeps = Keeps-trans inv.keeps c.in_ok-one.ensures.keeps;
      within = omega (arith, c.loop-a-test.true);
      negations = rw c.in_ok-push.ensures.ok (negations_more inv.negations c.in_ok-one.ensures.keeps c.in_ok-one.ensures.negation c.loop-a-test.true c.a-item.is);
    }

pub returns-clause-negations : goal.returns-clause-negations
returns-clause-negations c = negations_done c.loop-a.invariant.negations (omega (arith, c.loop-a.invariant.within, c.loop-a-test.false))
