use Rattle.std.proofs.Common.{None, subst}
use Rattle.sk_min_certificate.specs.Certifications.{IsCertification}
use Rattle.sk_app.proofs.CompleteLaws.{none_certified}
use Rattle.sk_app.proofs.complete.certified_none.Goals as goal

pub returns-in-Text-clause-found : goal.returns-in-Text-clause-found
returns-in-Text-clause-found g c set text ready =
    let is = subst (IsCertification c.args.expanded.now c.args.bounds.now None 0 c.as_slice.result.now c.args.budget.now.conflicts) c.in-Text.is c.in_ok-out.ensures.is in
    none_certified set text c.args.bounds.now c.args.expanded.now ready c.args.budget.now c.args.pairs c.in-Text.out.items c.requires.honest c.requires.room c.requires.none is
