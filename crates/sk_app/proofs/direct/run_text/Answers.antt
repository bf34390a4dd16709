use Rattle.std.proofs.Common.{refl, subst}
use Rattle.sk_app.specs.Ends.{IsDelivered}
use Rattle.sk_app.specs.Jobs.{IsDone}
use Rattle.sk_app.specs.Effects.{refused, not_run, ran}
use Rattle.sk_app.proofs.EndingLemmas.{refused_place, run_no_fault, stop_no_fault}
use Rattle.sk_app.proofs.direct.run_text.Goals as goal

pub returns-in-Err-clause-place : goal.returns-in-Err-clause-place
returns-in-Err-clause-place g c fault e = refused_place c.args.text.now c.in-Err.fault c.refusal.result fault c.in-Err.ensures.place c.refusal.ensures e

pub returns-in-Ok-NotTraced-clause-place : goal.returns-in-Ok-NotTraced-clause-place
returns-in-Ok-NotTraced-clause-place g c fault e = stop_no_fault c.stopped.result c.in-Ok-NotTraced.fault fault c.stopped.ensures e

pub returns-in-Ok-Run-clause-place : goal.returns-in-Ok-Run-clause-place
returns-in-Ok-Run-clause-place g c fault e = run_no_fault c.deliver.result _ c.in-Ok-Run.outcome _ _ _ _ _ fault c.ending_of-done.ensures c.deliver.ensures e

pub returns-in-Err-clause-runs : goal.returns-in-Err-clause-runs
returns-in-Err-clause-runs g c = refused c.in-Err.fault c.in-Err.ensures.fault c.refusal.ensures refl

pub returns-in-Ok-NotTraced-clause-runs : goal.returns-in-Ok-NotTraced-clause-runs
returns-in-Ok-NotTraced-clause-runs g c =
    let m = c.in-Ok-NotTraced in
    not_run m.fault (subst (IsDone c.args.set.now c.args.job.now c.args.text.now) m.field-0-is m.ensures.found) c.stopped.ensures refl

pub returns-in-Ok-Run-clause-runs : goal.returns-in-Ok-Run-clause-runs
returns-in-Ok-Run-clause-runs g c =
    let m = c.in-Ok-Run in
    let a = g.K.Sink.faults c.args.sink.now in
    let b = g.K.Sink.faults c.deliver.new.sink in
    let d = g.K.Sink.held c.args.sink.now in
    let e = g.K.Sink.held c.deliver.new.sink in
    ran m.outcome m.out.items (subst (IsDone c.args.set.now c.args.job.now c.args.text.now) m.field-0-is m.ensures.found)
    (subst (λ x. IsDelivered c.deliver.result x m.out.items a b d e) c.ending_of-done.ensures (subst (λ x. IsDelivered c.deliver.result c.ending_of-done.result x a b d e) c.as_slice.ensures.value c.deliver.ensures))
