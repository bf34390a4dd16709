use Rattle.std.proofs.Common.{sym, subst, arith}
use Rattle.std.proofs.lemmas.List.{take_rest}
use Rattle.sk_arr.specs.Shapes.{AllStand, AllAlike}
use Rattle.sk_arr.specs.Steps.{IsReadFrom}
use Rattle.sk_dag.proofs.EvalLemmas.{Keeps-trans}
use Rattle.sk_arr.proofs.Makers.{Keeps-refl}
use Rattle.sk_arr.proofs.Standing.{AllStand-keeps}
use Rattle.sk_arr.proofs.MoveLaws.{tail_stands, tail_alike, moved_begin, moved_more, moved_done}
use Rattle.sk_arr.proofs.moving.moved.Goals as goal

pub loop-place-init : goal.loop-place-init
loop-place-init c = record { keeps = Keeps-refl _; moved = rw c.new-made.ensures (moved_begin _ _ _) }

pub element-requires-clause-list : goal.element-requires-clause-list
element-requires-clause-list c = subst (λ l. AllStand c.loop-place.dag l) (sym (take_rest c.args.row.now c.loop-place.place)) (tail_stands c.args.row.now c.loop-place.place (AllStand-keeps c.loop-place.invariant.keeps c.requires.row))

pub element-requires-clause-alike : goal.element-requires-clause-alike
element-requires-clause-alike c = subst AllAlike (sym (take_rest c.args.row.now c.loop-place.place)) (tail_alike c.args.row.now c.loop-place.place c.requires.bits)

pub loop-place-preserved : goal.loop-place-preserved
loop-place-preserved c =
    let inv = c.loop-place.invariant in
    record {
      keeps = Keeps-trans inv.keeps c.in_ok-one.ensures.keeps;
      moved = rw c.in_ok-push.ensures.ok (moved_more c.loop-place.place c.in_ok-one.one inv.moved c.in_ok-one.ensures.keeps c.requires.bits (omega (arith, c.loop-place-test.true))
          (subst (λ l. IsReadFrom c.element.new.dag l c.args.by c.in_ok-one.one) (take_rest c.args.row.now c.loop-place.place) c.in_ok-one.ensures.read));
    }

pub returns-clause-moved : goal.returns-clause-moved
returns-clause-moved c = moved_done c.loop-place.invariant.moved (omega (arith, c.requires.some))
