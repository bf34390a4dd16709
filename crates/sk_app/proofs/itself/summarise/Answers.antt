use Rattle.std.proofs.Common.{subst}
use Rattle.sk_app.specs.declared.ending.Ending.TheVariants as ending
use Rattle.sk_app.specs.Ends.{IsDelivered}
use Rattle.sk_app.specs.Effects.{summarised}
use Rattle.sk_app.proofs.itself.summarise.Goals as goal

pub returns-in-Ok : goal.returns-in-Ok
returns-in-Ok g c =
    summarised c.in-Ok.out.items c.in-Ok.ensures
    (subst (λ x. IsDelivered c.deliver.result ending.Completed x (g.K.Sink.faults c.args.sink.now) (g.K.Sink.faults c.deliver.new.sink) (g.K.Sink.held c.args.sink.now) (g.K.Sink.held c.deliver.new.sink)) c.as_slice.ensures.value c.deliver.ensures)
