use Rattle.std.proofs.Common.{refl, subst}
use Rattle.sk_prune_text.specs.PrunedTexts.{IsPruning}
use Rattle.sk_app.specs.declared.ending.Ending.TheVariants as ending
use Rattle.sk_app.specs.Ends.{IsDelivered}
use Rattle.sk_app.specs.Effects.{unexpanded, unfilled, pruned}
use Rattle.sk_app.proofs.prune.prune_text.Goals as goal

pub returns-in-Err : goal.returns-in-Err
returns-in-Err g c = unexpanded c.in-Err.fault c.in-Err.ensures.fault c.in-Err.ensures.place c.refusal.ensures refl

pub returns-in-Ok-Unfilled : goal.returns-in-Ok-Unfilled
returns-in-Ok-Unfilled g c =
    let m = c.in-Ok-Unfilled in
    unfilled (subst (IsPruning c.args.set.now c.args.text.now) m.field-0-is m.ensures.found) refl refl

pub returns-in-Ok-Pruned : goal.returns-in-Ok-Pruned
returns-in-Ok-Pruned g c =
    let m = c.in-Ok-Pruned in
    pruned m.out.items (subst (IsPruning c.args.set.now c.args.text.now) m.field-0-is m.ensures.found)
    (subst (λ x. IsDelivered c.deliver.result ending.Pruned x (g.K.Sink.faults c.args.sink.now) (g.K.Sink.faults c.deliver.new.sink) (g.K.Sink.held c.args.sink.now) (g.K.Sink.held c.deliver.new.sink)) c.as_slice.ensures.value c.deliver.ensures)
