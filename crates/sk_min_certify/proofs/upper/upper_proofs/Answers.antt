use Rattle.std.proofs.Common.{◌+◌, subst, sym}
use Rattle.sk_min_certify.proofs.Above.{AreFirst, first_next}
use Rattle.sk_min_certify.proofs.upper.upper_proofs.Goals as goal

pub loop-place-preserved : goal.loop-place-preserved
loop-place-preserved g c =
    subst (AreFirst c.args.expanded.now c.args.bounds.now c.args.choice.now c.args.value (c.loop-place.place + 1)) (sym c.in_ok-push.ensures.ok)
    (first_next c.args.expanded.now c.args.bounds.now c.args.choice.now c.args.value c.loop-place.place c.loop-place.upper c.in_ok-proof.proof c.loop-place.invariant c.in_ok-proof.ensures.proves)
