use Rattle.std.proofs.Common.{List, All, sym, subst}
use Rattle.std.specs.Option.{option_copied}
use Rattle.sk_model.specs.declared.expanded.Input.{Input}
use Rattle.sk_model.specs.Inputs.{IsInput}
use Rattle.sk_loop_laws.proofs.Pairs.{honest_are_inputs}
use Rattle.sk_cert.specs.Certificates.{HasForm, IsCertificate}
use Rattle.sk_min_certify.specs.Certified.{IsLower, IsPut}
use Rattle.sk_min_certificate.proofs.Known.{spent}
use Rattle.sk_min_certificate.proofs.Whole.{certified, has_form}
use Rattle.sk_min_certificate.proofs.certifying.certification.Goals as goal

pub certify-requires-clause-inputs : goal.certify-requires-clause-inputs
certify-requires-clause-inputs g c =
    subst (All (IsInput c.args.expanded.now.prog c.args.bounds.now)) (sym c.requires.inputs) (honest_are_inputs c.args.expanded.now c.args.bounds.now c.args.pairs.now c.requires.honest)

pub text_of-requires : goal.text_of-requires
text_of-requires g c =
    let made = rw c.in-Proofs.is at c.in_ok-upper.ensures in
    let low = subst (λ (xs : List Input). IsLower c.args.expanded.now c.args.bounds.now (option_copied c.args.choice) c.args.value xs c.in-Proofs.lower) c.requires.inputs made.1 in
    subst HasForm (sym c.with_proofs-certificate.ensures)
    (has_form c.args.expanded.now c.args.bounds.now (option_copied c.args.choice) c.args.value c.args.pairs.now c.args.claim c.in-Proofs.upper c.in-Proofs.lower c.requires.claims made.0 low c.requires.known)

pub returns-in_ok-out-in-Proofs-clause-is : goal.returns-in_ok-out-in-Proofs-clause-is
returns-in_ok-out-in-Proofs-clause-is g c =
    let made = rw c.in-Proofs.is at c.in_ok-upper.ensures in
    let low = subst (λ (xs : List Input). IsLower c.args.expanded.now c.args.bounds.now (option_copied c.args.choice) c.args.value xs c.in-Proofs.lower) c.requires.inputs made.1 in
    let out = c.in_ok-out-in-Proofs.out.items in
    certified c.args.expanded.now c.args.bounds.now (option_copied c.args.choice) c.args.value c.args.pairs.now c.args.claim c.in-Proofs.upper c.in-Proofs.lower c.requires.claims made.0 low c.requires.honest c.requires.askable out
    (subst (IsCertificate out) c.with_proofs-certificate.ensures c.in_ok-out-in-Proofs.ensures)

pub returns-in-Spent-clause-is : goal.returns-in-Spent-clause-is
returns-in-Spent-clause-is g c =
    let left = rw c.in-Spent.is at c.in_ok-upper.ensures in
    let put = subst (λ (xs : List Input). IsPut c.args.expanded.now c.args.bounds.now (option_copied c.args.choice) c.args.value xs c.in-Spent.query) c.requires.inputs left.0 in
    spent c.args.expanded.now c.args.bounds.now c.requires.askable c.args.pairs.now c.requires.honest (option_copied c.args.choice) c.args.value c.args.conflicts c.in-Spent.query c.in-Spent.formula c.in-Spent.log c.requires.known put left.1
