use Rattle.std.proofs.Common.{◌≡◌, ◌<◌, length, get_or, arith, subst}
use Rattle.sk_dag.proofs.EvalLemmas.{Keeps-trans}
use Rattle.sk_arr.proofs.Standing.{Stands-keeps}
use Rattle.sk_arr.proofs.Choices.{forms_long, forms_alike, stand_at}
use Rattle.sk_heap.proofs.Retakes.{chosen_more}
use Rattle.sk_heap.proofs.retaken.chosen.Goals as goal

pub choose-requires-clause-a : goal.choose-requires-clause-a
choose-requires-clause-a c = Stands-keeps c.loop-a.invariant.keeps (stand_at c.args.list.now c.loop-a.a-index c.a-item.result c.loop-a-test.true c.a-item.is c.requires.list)

pub choose-requires-clause-b : goal.choose-requires-clause-b
choose-requires-clause-b c =
    let inv = c.loop-a.invariant in
    let i = c.loop-a.a-index in
    let b = c.index-others-i.result in
    let l = c.loop-a-test.true in
    let same = forms_long c.args.list.now c.args.others.now c.requires.alike in
    let m : i < length c.args.others.now = omega (arith, same, l) in
    let at : b ≡ get_or c.args.others.now i b = subst (λ n. b ≡ get_or c.args.others.now n b) inv.place c.index-others-i.is in
    Stands-keeps inv.keeps (stand_at c.args.others.now i b m at c.requires.others)

pub choose-requires-clause-alike : goal.choose-requires-clause-alike
choose-requires-clause-alike c =
    let inv = c.loop-a.invariant in
    let i = c.loop-a.a-index in
    let b = c.index-others-i.result in
    let l = c.loop-a-test.true in
    let same = forms_long c.args.list.now c.args.others.now c.requires.alike in
    let m : i < length c.args.others.now = omega (arith, same, l) in
    let at : b ≡ get_or c.args.others.now i b = subst (λ n. b ≡ get_or c.args.others.now n b) inv.place c.index-others-i.is in
    forms_alike c.args.list.now c.args.others.now i c.a-item.result b c.requires.alike l m c.a-item.is at

pub loop-a-preserved : goal.loop-a-preserved
loop-a-preserved c =
    let inv = c.loop-a.invariant in
    let i = c.loop-a.a-index in
    let b = c.index-others-i.result in
    let l = c.loop-a-test.true in
    let same = forms_long c.args.list.now c.args.others.now c.requires.alike in
    let m : i < length c.args.others.now = omega (arith, same, l) in
    let at : b ≡ get_or c.args.others.now i b = subst (λ n. b ≡ get_or c.args.others.now n b) inv.place c.index-others-i.is in
    record {
      keeps = Keeps-trans inv.keeps c.in_ok-one.ensures.keeps;
      place = omega (arith, inv.place);
      chosen = rw c.in_ok-push.ensures.ok (chosen_more c.args.list.now c.args.others.now c.loop-a.made i c.a-item.result b c.in_ok-one.one l m c.a-item.is at inv.chosen c.in_ok-one.ensures.keeps c.in_ok-one.ensures.choice);
    }
