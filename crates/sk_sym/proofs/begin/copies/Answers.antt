use Rattle.std.proofs.Common.{arith, sym, subst}
use Rattle.std.proofs.lemmas.List.{take_all}
use Rattle.sk_arr.specs.Shapes.{AllStand}
use Rattle.sk_arr.specs.Answers.{AreCopies}
use Rattle.sk_arr.proofs.Copies.{copies_more}
use Rattle.sk_sym.proofs.begin.copies.Goals as goal

pub loop-a-preserved : goal.loop-a-preserved
loop-a-preserved c = λ g h.
    rw c.in_ok-push.ensures.ok (copies_more c.args.list.now c.loop-a.made c.loop-a.a-index c.a-item.result c.in_ok-one.one c.loop-a-test.true c.a-item.is (c.loop-a.invariant g) (c.in_ok-one.ensures g) h)

pub returns : goal.returns
returns c = λ g h.
    let whole = take_all c.loop-a.a-index c.args.list.now (omega arith) in
    subst (λ l. AreCopies g l c.loop-a.made) whole (c.loop-a.invariant g (subst (AllStand g) (sym whole) h))
