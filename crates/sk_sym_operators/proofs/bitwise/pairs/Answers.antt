use Rattle.std.proofs.Common.{◌≡◌, ◌<◌, length, get_or, refl, subst, arith}
use Rattle.sk_dag.proofs.EvalLemmas.{Keeps-trans}
use Rattle.sk_arr.proofs.Makers.{Keeps-refl}
use Rattle.sk_arr.proofs.Standing.{Stands-keeps}
use Rattle.sk_arr.proofs.Choices.{stand_at}
use Rattle.sk_sym_operators.specs.Bitwise.{bitwise}
use Rattle.sk_sym_operators.proofs.EachBit.{bit_there, pairs_none, pairs_more, pairs_done}
use Rattle.sk_sym_operators.proofs.bitwise.pairs.Goals as goal

pub loop-a-init : goal.loop-a-init
loop-a-init c = record {
  keeps = Keeps-refl _;
  place = refl;
  within = omega arith;
  pairs = rw c.new-made.ensures (pairs_none c.args.dag.now (bitwise c.args.op) c.args.x.now c.args.y.now);
}

pub pair-requires-clause-a : goal.pair-requires-clause-a
pair-requires-clause-a c = Stands-keeps c.loop-a.invariant.keeps (stand_at c.args.x.now c.loop-a.a-index c.a-item.result c.loop-a-test.true c.a-item.is c.requires.x)

pub pair-requires-clause-b : goal.pair-requires-clause-b
pair-requires-clause-b c =
    let inv = c.loop-a.invariant in
    let y = c.index-y-i.result in
    let m : c.loop-a.a-index < length c.args.y.now = omega (arith, c.requires.long, c.loop-a-test.true) in
    let at : y ≡ get_or c.args.y.now c.loop-a.a-index y = subst (λ n. y ≡ get_or c.args.y.now n y) inv.place c.index-y-i.is in
    Stands-keeps inv.keeps (stand_at c.args.y.now c.loop-a.a-index y m at c.requires.y)

pub pair-requires-clause-a_bit : goal.pair-requires-clause-a_bit
pair-requires-clause-a_bit c = bit_there c.args.x.now c.loop-a.a-index c.a-item.result c.loop-a-test.true c.a-item.is c.requires.x_bits

pub pair-requires-clause-b_bit : goal.pair-requires-clause-b_bit
pair-requires-clause-b_bit c =
    let y = c.index-y-i.result in
    let m : c.loop-a.a-index < length c.args.y.now = omega (arith, c.requires.long, c.loop-a-test.true) in
    let at : y ≡ get_or c.args.y.now c.loop-a.a-index y = subst (λ n. y ≡ get_or c.args.y.now n y) c.loop-a.invariant.place c.index-y-i.is in
    bit_there c.args.y.now c.loop-a.a-index y m at c.requires.y_bits

pub loop-a-preserved : goal.loop-a-preserved
loop-a-preserved c =
    let inv = c.loop-a.invariant in
    let y = c.index-y-i.result in
    let m : c.loop-a.a-index < length c.args.y.now = omega (arith, c.requires.long, c.loop-a-test.true) in
    let at : y ≡ get_or c.args.y.now c.loop-a.a-index y = subst (λ n. y ≡ get_or c.args.y.now n y) inv.place c.index-y-i.is in
    record {
      keeps = Keeps-trans inv.keeps c.in_ok-one.ensures.keeps;
      place = omega (arith, inv.place);
      within = omega (arith, c.loop-a-test.true);
      pairs = rw c.in_ok-push.ensures.ok (pairs_more inv.pairs c.in_ok-one.ensures.keeps c.in_ok-one.ensures.pair c.loop-a-test.true m c.a-item.is at);
    }

pub returns-clause-pairs : goal.returns-clause-pairs
returns-clause-pairs c = pairs_done c.loop-a.invariant.pairs (omega (arith, c.loop-a.invariant.within, c.loop-a-test.false))
