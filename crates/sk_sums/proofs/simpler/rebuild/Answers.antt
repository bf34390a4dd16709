use Rattle.std.proofs.Common.{◌≡◌, ◌∙◌, ◌<◌, length, arith, sym}
use Rattle.sk_dag.specs.Reach.{IsMarked}
use Rattle.sk_dag.proofs.EvalLemmas.{Keeps-trans, Keeps-bits}
use Rattle.sk_dag.proofs.ReachLemmas.{children_before, copy_may, StandForMarked-push, marked_here, true_here}
use Rattle.sk_simplify.proofs.SimpleLemmas.{StandsFor-worth}
use Rattle.sk_sums.proofs.simpler.rebuild.Goals as goal

pub put_wanted-requires-clause-follows : goal.put_wanted-requires-clause-follows
put_wanted-requires-clause-follows c = λ t.
    let bits : c.args.dag.now.bits ≡ c.loop-i.new.bits = c.requires.width ∙ sym (Keeps-bits c.loop-i.invariant.keeps) in
    let within : c.loop-i.i < length c.args.marks.now = omega (arith, c.requires.closed.length, c.len-i-end.ensures) in
    rw c.deref.ensures.value
    (copy_may c.args.marks.now c.loop-i.numbers.items c.loop-i.i c.node.result.now c.requires.closed bits c.node.ensures c.loop-i.invariant.copied
    (marked_here c.args.marks.now c.loop-i.i within t))

pub loop-i-preserved : goal.loop-i-preserved
loop-i-preserved c =
    let bits : c.args.dag.now.bits ≡ c.loop-i.new.bits = c.requires.width ∙ sym (Keeps-bits c.loop-i.invariant.keeps) in
    let items = c.in_ok-push.ensures.items in
    record {
      keeps = Keeps-trans c.loop-i.invariant.keeps c.put_wanted.ensures.keeps;
      copied =
          rw items
          (StandForMarked-push c.args.marks.now c.loop-i.numbers.items c.loop-i.i _ c.put_wanted.ensures.keeps c.loop-i.invariant.copied
          (λ (m : IsMarked c.args.marks.now c.loop-i.i).
          StandsFor-worth c.args.marks.now c.loop-i.numbers.items c.loop-i.i _ c.node.result.now c.requires.closed bits c.node.ensures c.loop-i.invariant.copied c.put_wanted.ensures.keeps m
          (rw c.deref.ensures.value at (c.in_ok-number.ensures.placed (true_here c.args.marks.now c.loop-i.i m)))));
    }

pub put_wanted-requires-clause-within : goal.put_wanted-requires-clause-within
put_wanted-requires-clause-within c =
    rw (c.deref.ensures.value, c.loop-i.invariant.copied.length) (children_before _ _ c.loop-i.i _ c.node.ensures.before)
