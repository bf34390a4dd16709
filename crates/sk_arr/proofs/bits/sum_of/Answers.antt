use Rattle.std.proofs.Common.{◌≡◌, ◌<◌, length, get_or, refl, sym, subst, arith}
use Rattle.sk_dag.proofs.EvalLemmas.{Keeps-trans}
use Rattle.sk_arr.specs.Forms.{IsBit}
use Rattle.sk_arr.proofs.Makers.{Keeps-refl}
use Rattle.sk_arr.proofs.Standing.{Stands-keeps}
use Rattle.sk_arr.proofs.Choices.{stand_at}
use Rattle.sk_arr.proofs.SumLaws.{sum_none, sum_more, sum_done}
use Rattle.sk_arr.proofs.bits.sum_of.Goals as goal

pub loop-x-init : goal.loop-x-init
loop-x-init c = record {
  keeps = Keeps-refl _;
  place = refl;
  within = omega arith;
  sum = rw c.new-made.ensures (sum_none c.args.a.now c.args.b.now c.in_ok-no.ensures.there c.in_ok-no.ensures.value);
}

pub add_bit-requires-clause-a : goal.add_bit-requires-clause-a
add_bit-requires-clause-a c = Stands-keeps (Keeps-trans c.in_ok-no.ensures.keeps c.loop-x.invariant.keeps) (stand_at c.args.a.now c.loop-x.x-index c.x-item.result c.loop-x-test.true c.x-item.is c.requires.a)

pub add_bit-requires-clause-b : goal.add_bit-requires-clause-b
add_bit-requires-clause-b c =
    let inv = c.loop-x.invariant in
    let y = c.index-b-i.result in
    let m : c.loop-x.x-index < length c.args.b.now = omega (arith, c.requires.long, c.loop-x-test.true) in
    let at : y ≡ get_or c.args.b.now c.loop-x.x-index y = subst (λ n. y ≡ get_or c.args.b.now n y) inv.place c.index-b-i.is in
    Stands-keeps (Keeps-trans c.in_ok-no.ensures.keeps inv.keeps) (stand_at c.args.b.now c.loop-x.x-index y m at c.requires.b)

pub add_bit-requires-clause-a_bit : goal.add_bit-requires-clause-a_bit
add_bit-requires-clause-a_bit c = subst IsBit (sym c.x-item.is) (c.requires.a_bits.each c.loop-x.x-index c.x-item.result c.loop-x-test.true)

pub add_bit-requires-clause-b_bit : goal.add_bit-requires-clause-b_bit
add_bit-requires-clause-b_bit c =
    let inv = c.loop-x.invariant in
    let y = c.index-b-i.result in
    let m : c.loop-x.x-index < length c.args.b.now = omega (arith, c.requires.long, c.loop-x-test.true) in
    let at : y ≡ get_or c.args.b.now c.loop-x.x-index y = subst (λ n. y ≡ get_or c.args.b.now n y) inv.place c.index-b-i.is in
    subst IsBit (sym at) (c.requires.b_bits.each c.loop-x.x-index y m)

pub add_bit-requires-clause-carry : goal.add_bit-requires-clause-carry
add_bit-requires-clause-carry c = c.loop-x.invariant.sum.there

pub loop-x-preserved : goal.loop-x-preserved
loop-x-preserved c =
    let inv = c.loop-x.invariant in
    let y = c.index-b-i.result in
    let m : c.loop-x.x-index < length c.args.b.now = omega (arith, c.requires.long, c.loop-x-test.true) in
    let at : y ≡ get_or c.args.b.now c.loop-x.x-index y = subst (λ n. y ≡ get_or c.args.b.now n y) inv.place c.index-b-i.is in
    record {
      keeps = Keeps-trans inv.keeps c.in_ok-next.ensures.keeps;
      place = omega (arith, inv.place);
      within = omega (arith, c.loop-x-test.true);
      sum = rw c.in_ok-push.ensures.ok (sum_more inv.sum c.in_ok-next.ensures.keeps c.in_ok-next.ensures.added c.loop-x-test.true m c.x-item.is at);
    }

pub returns-clause-keeps : goal.returns-clause-keeps
returns-clause-keeps c = Keeps-trans c.in_ok-no.ensures.keeps c.loop-x.invariant.keeps

pub returns-clause-sum : goal.returns-clause-sum
returns-clause-sum c = sum_done c.loop-x.invariant.sum (omega (arith, c.loop-x.invariant.within, c.loop-x-test.false))
