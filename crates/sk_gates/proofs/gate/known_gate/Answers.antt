use Rattle.std.proofs.Common.{true, refl}
use Rattle.sk_gates.proofs.ExtensionLaws.{on_err}
use Rattle.sk_gates.proofs.GateLaws.{Defining-start, Defining-more, known_made, known_refused}
use Rattle.sk_gates.proofs.gate.known_gate.Goals.{then-value, else-value}
use Rattle.sk_gates.proofs.gate.known_gate.Goals as goal

pub returns-clause-gate : goal.returns-clause-gate
returns-clause-gate c =
    let d0 = Defining-start c.in_ok-r.ensures.ok in
    let d1 = Defining-more _ _ d0 c.in_ok-push.ensures.ok in
    known_made _ _ _ _ _ c.in_ok-r.ensures.made (elim c.if-value.branch [
      | then-value w ↦ (cc)
      | else-value w ↦ (cc)
    ]) d1

pub returns-in_err-push-clause-err : goal.returns-in_err-push-clause-err
returns-in_err-push-clause-err c =
    let d0 = Defining-start c.in_ok-r.ensures.ok in
    on_err _ (known_refused c.in_ok-r.r c.in_ok-r.r true c.in_ok-r.ensures.made refl c.in_err-push.ensures.err d0)
