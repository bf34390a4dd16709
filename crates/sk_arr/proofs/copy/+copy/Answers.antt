use Rattle.std.proofs.Common.{arith, sym, subst}
use Rattle.std.proofs.lemmas.List.{take_all}
use Rattle.sk_arr.specs.Shapes.{AllStand}
use Rattle.sk_arr.specs.Answers.{AreCopies}
use Rattle.sk_arr.proofs.Copies.{copy_targets_at, copy_parts_at, copies_more}
use Rattle.sk_arr.proofs.copy.+copy.Goals as goal

pub copy-returns-in_ok-targets-in-Reference : goal.copy-returns-in_ok-targets-in-Reference
copy-returns-in_ok-targets-in-Reference t c = λ g h. copy_targets_at c.in-Reference.is c.in_ok-targets-in-Reference.ensures h

pub copy-returns-in_ok-parts-in-Array : goal.copy-returns-in_ok-parts-in-Array
copy-returns-in_ok-parts-in-Array t c = λ g h.
    let slice = c.as_slice.ensures in
    copy_parts_at c.in-Array.is
    (λ k. subst (λ l. AreCopies g l c.in_ok-parts-in-Array.parts) slice (c.in_ok-parts-in-Array.ensures g (subst (AllStand g) (sym slice) k))) h

pub copy_all-loop-a-preserved : goal.copy_all-loop-a-preserved
copy_all-loop-a-preserved t c = λ g h.
    rw c.in_ok-push.ensures.ok (copies_more c.args.list.now c.loop-a.made c.loop-a.a-index c.a-item.result c.in_ok-one.one c.loop-a-test.true c.a-item.is (c.loop-a.invariant g) (c.in_ok-one.ensures g) h)

pub copy_all-returns : goal.copy_all-returns
copy_all-returns t c = λ g h.
    let whole = take_all c.loop-a.a-index c.args.list.now (omega arith) in
    subst (λ l. AreCopies g l c.loop-a.made) whole (c.loop-a.invariant g (subst (AllStand g) (sym whole) h))
