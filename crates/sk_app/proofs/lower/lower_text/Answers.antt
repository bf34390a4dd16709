use Rattle.std.proofs.Common.{refl, subst}
use Rattle.sk_adt_text.specs.PlainTexts.{IsLowering}
use Rattle.sk_app.specs.declared.ending.Ending.TheVariants as ending
use Rattle.sk_app.specs.Ends.{IsDelivered}
use Rattle.sk_app.specs.Effects.{no_program, not_lowered, not_tagged, lowered}
use Rattle.sk_app.proofs.lower.lower_text.Goals as goal

pub returns-in-Err : goal.returns-in-Err
returns-in-Err g c = no_program c.in-Err.fault c.in-Err.ensures.fault c.in-Err.ensures.place c.refusal.ensures refl

pub returns-in-Ok-NotLowered : goal.returns-in-Ok-NotLowered
returns-in-Ok-NotLowered g c =
    let m = c.in-Ok-NotLowered in
    not_lowered m.reason (subst (IsLowering c.args.set.now c.args.text.now) m.field-0-is m.ensures.found) refl refl

pub returns-in-Ok-NotTagged : goal.returns-in-Ok-NotTagged
returns-in-Ok-NotTagged g c =
    let m = c.in-Ok-NotTagged in
    not_tagged m.span (subst (IsLowering c.args.set.now c.args.text.now) m.field-0-is m.ensures.found) refl refl

pub returns-in-Ok-Plain : goal.returns-in-Ok-Plain
returns-in-Ok-Plain g c =
    let m = c.in-Ok-Plain in
    lowered m.out.items (subst (IsLowering c.args.set.now c.args.text.now) m.field-0-is m.ensures.found)
    (subst (λ x. IsDelivered c.deliver.result ending.Lowered x (g.K.Sink.faults c.args.sink.now) (g.K.Sink.faults c.deliver.new.sink) (g.K.Sink.held c.args.sink.now) (g.K.Sink.held c.deliver.new.sink)) c.as_slice.ensures.value c.deliver.ensures)
