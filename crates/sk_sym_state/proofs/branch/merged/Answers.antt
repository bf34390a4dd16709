use Rattle.std.proofs.Common.{◌≡◌, ◌<◌, length, get_or, arith, subst, ap}
use Rattle.sk_dag.proofs.EvalLemmas.{Keeps-trans}
use Rattle.sk_arr.proofs.Standing.{Stands-keeps}
use Rattle.sk_arr.proofs.Choices.{stand_at}
use Rattle.sk_sym_state.proofs.Fronts.{merged_more, length_push}
use Rattle.sk_sym_state.proofs.branch.merged.Goals as goal

pub join_shapes-requires-clause-a : goal.join_shapes-requires-clause-a
join_shapes-requires-clause-a c = Stands-keeps c.loop-a.invariant.keeps (stand_at c.args.first.now c.loop-a.a-index c.a-item.result c.loop-a-test.true c.a-item.is c.requires.first)

pub join_shapes-requires-clause-b : goal.join_shapes-requires-clause-b
join_shapes-requires-clause-b c = Stands-keeps c.loop-a.invariant.keeps (stand_at c.args.second.now c.loop-a.i c.index-second-i.result (omega arith) c.index-second-i.is c.requires.second)

pub loop-a-preserved : goal.loop-a-preserved
loop-a-preserved c =
    let inv = c.loop-a.invariant in
    let i = c.loop-a.a-index in
    let b = c.index-second-i.result in
    let m : i < length c.args.second.now = omega (arith, inv.place) in
    let at : b ≡ get_or c.args.second.now i b = subst (λ n. b ≡ get_or c.args.second.now n b) inv.place c.index-second-i.is in
    record {
      keeps = Keeps-trans inv.keeps c.in_ok-one.ensures.keeps;
      place = omega (arith, inv.place);
      count = omega (arith, inv.count, ap length c.in_ok-push.ensures.ok, length_push c.loop-a.made c.in_ok-one.one);
      merged = rw c.in_ok-push.ensures.ok (merged_more c.args.first.now c.args.second.now c.loop-a.made i c.a-item.result b c.in_ok-one.one inv.count c.loop-a-test.true m c.a-item.is at inv.merged c.in_ok-one.ensures.keeps c.in_ok-one.ensures.choice);
    }
