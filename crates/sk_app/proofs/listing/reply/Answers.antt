use Rattle.std.proofs.Common.{refl, sym, subst}
use Rattle.sk_all_text.specs.AllTexts.{IsReasons}
use Rattle.sk_app.specs.declared.ending.Ending.TheVariants as ending
use Rattle.sk_app.specs.Questions.{OfList, OfReasons, OfCompletion}
use Rattle.sk_app.specs.Ends.{IsDelivered}
use Rattle.sk_app.specs.Effects.{RepliesTo, unanswered, replied}
use Rattle.sk_app.proofs.listing.reply.Goals as goal

pub returns-in-Ok : goal.returns-in-Ok
returns-in-Ok g c =
    let m = c.in-Ok in
    subst (λ q. RepliesTo c.args.set.now q c.args.text.now c.deliver.result (g.K.Sink.faults c.args.sink.now) (g.K.Sink.faults c.deliver.new.sink) (g.K.Sink.held c.args.sink.now) (g.K.Sink.held c.deliver.new.sink)) (sym c.in-Which.is)
    (replied OfList m.out.items m.ensures.found
    (subst (λ x. IsDelivered c.deliver.result ending.Listed x (g.K.Sink.faults c.args.sink.now) (g.K.Sink.faults c.deliver.new.sink) (g.K.Sink.held c.args.sink.now) (g.K.Sink.held c.deliver.new.sink)) c.as_slice.ensures.value c.deliver.ensures))

pub returns-in-Err : goal.returns-in-Err
returns-in-Err g c = unanswered c.in-Err.fault c.in-Err.ensures.fault c.in-Err.ensures.place c.refusal.ensures refl

pub returns-in-Ok-Explained : goal.returns-in-Ok-Explained
returns-in-Ok-Explained g c =
    let m = c.in-Ok-Explained in
    let d = c.deliver-in-Ok-Explained in
    subst (λ q. RepliesTo c.args.set.now q c.args.text.now d.result (g.K.Sink.faults c.args.sink.now) (g.K.Sink.faults d.new.sink) (g.K.Sink.held c.args.sink.now) (g.K.Sink.held d.new.sink)) (sym c.in-Why.is)
    (replied OfReasons m.out.items (subst (IsReasons c.args.set.now c.args.text.now) m.field-0-is m.ensures.found)
    (subst (λ x. IsDelivered d.result ending.Explained x (g.K.Sink.faults c.args.sink.now) (g.K.Sink.faults d.new.sink) (g.K.Sink.held c.args.sink.now) (g.K.Sink.held d.new.sink)) c.as_slice-in-Ok-Explained.ensures.value d.ensures))

pub returns-in-Ok-Met : goal.returns-in-Ok-Met
returns-in-Ok-Met g c =
    let m = c.in-Ok-Met in
    let d = c.deliver-in-Ok-Met in
    subst (λ q. RepliesTo c.args.set.now q c.args.text.now d.result (g.K.Sink.faults c.args.sink.now) (g.K.Sink.faults d.new.sink) (g.K.Sink.held c.args.sink.now) (g.K.Sink.held d.new.sink)) (sym c.in-Why.is)
    (replied OfCompletion m.out.items (subst (IsReasons c.args.set.now c.args.text.now) m.field-0-is m.ensures.found)
    (subst (λ x. IsDelivered d.result ending.Met x (g.K.Sink.faults c.args.sink.now) (g.K.Sink.faults d.new.sink) (g.K.Sink.held c.args.sink.now) (g.K.Sink.held d.new.sink)) c.as_slice-in-Ok-Met.ensures.value d.ensures))

pub returns-in-Err-why_text : goal.returns-in-Err-why_text
returns-in-Err-why_text g c = unanswered c.in-Err-why_text.fault c.in-Err-why_text.ensures.fault c.in-Err-why_text.ensures.place c.refusal-in-Err-why_text.ensures refl
