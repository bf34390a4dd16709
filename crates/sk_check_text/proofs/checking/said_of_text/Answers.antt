use Rattle.std.proofs.Common.{subst}
use Rattle.sk_check.specs.Verdicts.{IsVerdict}
use Rattle.sk_check_text.proofs.Answering.{accepted}
use Rattle.sk_check_text.proofs.checking.said_of_text.Goals as goal

pub returns-in-Ok-Accepted : goal.returns-in-Ok-Accepted
returns-in-Ok-Accepted c =
    accepted c.args.text.now c.args.bounds.now c.args.expanded.now c.in-Ok.certificate c.in-Ok.ensures.certificate c.requires.askable
    (subst (λ v. IsVerdict c.args.expanded.now c.args.bounds.now c.in-Ok.certificate v) c.in-Ok-Accepted.field-0-is c.in-Ok-Accepted.ensures)
