use Rattle.std.proofs.Common.{refl, subst}
use Rattle.sk_check_text.specs.Checking.{IsChecked}
use Rattle.sk_app.specs.Effects.{unsaid, no_certificate, rejected}
use Rattle.sk_app.proofs.check.check_input.Goals as goal

pub returns-in-Err : goal.returns-in-Err
returns-in-Err g c = unsaid c.in-Err.fault c.in-Err.ensures.fault c.in-Err.ensures.place c.refused_input.ensures refl

pub returns-in-Ok-NotCertificate : goal.returns-in-Ok-NotCertificate
returns-in-Ok-NotCertificate g c =
    let m = c.in-Ok-NotCertificate in
    no_certificate m.fault (subst (IsChecked c.args.set.now c.args.input.now) m.field-0-is m.ensures.found) refl refl

pub returns-in-Ok-Rejected : goal.returns-in-Ok-Rejected
returns-in-Ok-Rejected g c =
    let m = c.in-Ok-Rejected in
    rejected m.reason (subst (IsChecked c.args.set.now c.args.input.now) m.field-0-is m.ensures.found) c.reject.ensures
