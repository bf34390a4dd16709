use Rattle.std.proofs.Common.{◌≡◌, ◌+◌, ◌<◌, suc, length, get_or, subst, arith}
use Rattle.sk_sym_frames.proofs.Refs.{HaveSoFar, have_skipped, have_more, have_all}
use Rattle.sk_sym_frames.proofs.ended.refs_of.Goals.{then-p+else-slot-slots+in_ok-one+in_ok-push, else-p}
use Rattle.sk_sym_frames.proofs.ended.refs_of.Goals as goal

pub loop-p-preserved : goal.loop-p-preserved
loop-p-preserved c =
    let inv = c.loop-p.invariant in
    let i = c.loop-p.p-index in
    let params = c.args.params.now in
    let slots = c.args.slots.now in
    let next : suc i ≡ i + 1 = omega arith in
    record {
      slot = omega (arith, inv.slot);
      refs = subst (λ n. HaveSoFar params slots n c.if-p.made) next (elim c.if-p.branch [
        | then-p+else-slot-slots+in_ok-one+in_ok-push w ↦
            let held = w.index-slots-slot.result in
            let found : held ≡ get_or slots i held = subst (λ n. held ≡ get_or slots n held) inv.slot w.index-slots-slot.is in
            let within : i < length slots = omega (arith, inv.slot, w.if-slot-slots.false) in
            rw (w.made-is, w.in_ok-push.ensures.ok) (have_more params slots i c.loop-p.made c.p-item.result c.loop-p-test.true c.p-item.is held w.in_ok-one.one w.if-p.true within found w.in_ok-one.ensures inv.refs)
        | else-p w ↦ rw w.made-is (have_skipped params slots i c.loop-p.made c.p-item.result c.loop-p-test.true c.p-item.is w.if-p.false inv.refs)
      ]);
    }

pub returns : goal.returns
returns c = have_all c.args.params.now c.args.slots.now c.loop-p.p-index c.loop-p.made (omega arith) c.loop-p.invariant.refs
