use Rattle.std.proofs.Common.{Some, true, subst}
use Rattle.sk_loop_laws.specs.Shown.{Learnt}
use Rattle.sk_min_certificate.specs.Least.{IsKnownOf}
use Rattle.sk_min_certificate.specs.Certifications.{IsCertification}
use Rattle.sk_app.proofs.CompleteLaws.{certified_found, conflicts_found}
use Rattle.sk_app.proofs.complete.certified_best.Goals as goal

pub returns-in-Text-clause-found : goal.returns-in-Text-clause-found
returns-in-Text-clause-found g c set text ready =
    let is = subst (IsCertification c.args.expanded.now c.args.bounds.now (Some c.args.choice) c.args.value c.as_slice.result.now c.args.budget.now.conflicts) c.in-Text.is c.in_ok-out.ensures.is in
    certified_found set text c.args.bounds.now c.args.expanded.now ready c.args.budget.now c.args.pairs c.args.choice c.args.value c.in-Text.out.items c.requires.honest c.requires.room c.requires.below c.requires.best is

pub returns-in_ok-out-in-Spent-clause-found : goal.returns-in_ok-out-in-Spent-clause-found
returns-in_ok-out-in-Spent-clause-found g c set text ready =
    let m = c.in-Spent in
    let is = subst (IsCertification c.args.expanded.now c.args.bounds.now (Some c.args.choice) c.args.value c.as_slice.result.now c.args.budget.now.conflicts) m.is c.in_ok-out.ensures.is in
    let learnt = subst (λ pairs. Learnt c.args.expanded.now c.args.bounds.now c.args.budget.now.conflicts pairs m.query m.formula m.log) c.as_slice.ensures is.learnt in
    let known = subst (λ pairs. IsKnownOf c.args.expanded.now c.args.bounds.now pairs m.query (Some c.args.choice)) c.as_slice.ensures is.known in
    conflicts_found set text c.args.bounds.now c.args.expanded.now ready true c.args.budget.now c.args.pairs m.query m.formula m.log (Some c.args.choice) c.in_ok-out-in-Spent.out.items learnt c.requires.room known tt c.in_ok-out-in-Spent.ensures
