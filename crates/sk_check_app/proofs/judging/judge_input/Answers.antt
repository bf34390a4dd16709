use Rattle.std.proofs.Common.{refl, subst}
use Rattle.sk_check_text.specs.declared.checking.Checked.TheVariants as checked
use Rattle.sk_check_text.specs.Checking.{IsChecked}
use Rattle.sk_check_app.specs.declared.ending.Ending.TheVariants.{Rejected}
use Rattle.sk_check_app.specs.Judging.{IsWritten, refused, no_certificate, judged}
use Rattle.sk_check_app.proofs.judging.judge_input.Goals as goal

pub returns-in-Err : goal.returns-in-Err
returns-in-Err g c = refused c.in-Err.fault c.in-Err.ensures.fault c.in-Err.ensures.place c.refusal.ensures refl

pub returns-in-Ok-NotCertificate : goal.returns-in-Ok-NotCertificate
returns-in-Ok-NotCertificate g c =
    let m = c.in-Ok-NotCertificate in
    no_certificate m.fault (subst (IsChecked c.args.set.now c.args.input.now) m.field-0-is m.ensures.found) refl refl

pub returns-in-Ok-Accepted : goal.returns-in-Ok-Accepted
returns-in-Ok-Accepted g c =
    let m = c.in-Ok-Accepted in
    judged checked.Accepted tt (subst (IsChecked c.args.set.now c.args.input.now) m.field-0-is m.ensures.found) c.written.ensures

pub returns-in-Ok-Rejected : goal.returns-in-Ok-Rejected
returns-in-Ok-Rejected g c =
    let m = c.in-Ok-Rejected in
    let w = c.written-in-Ok-Rejected in
    judged (checked.Rejected m.reason) tt (subst (IsChecked c.args.set.now c.args.input.now) m.field-0-is m.ensures.found)
    (subst (λ line. IsWritten w.result (Rejected m.reason) line (g.K.Sink.faults c.args.sink.now) (g.K.Sink.faults w.new.sink) (g.K.Sink.held c.args.sink.now) (g.K.Sink.held w.new.sink)) c.rejected_line-line.ensures w.ensures)
