use Rattle.std.proofs.Common.{List, sym, subst}
use Rattle.sk_cert.specs.declared.certificate.CertInput.{CertInput}
use Rattle.sk_cert_inputs.specs.Inputs.{AreApart, AreListed}
use Rattle.sk_check.proofs.parts.test_inputs.Goals as goal

pub returns-then-not-apart-clause-stops : goal.returns-then-not-apart-clause-stops
returns-then-not-apart-clause-stops c = (
  c.requires.values,
  λ h. (
      let t = c.in_ok-apart.ensures.1 (subst AreApart (sym c.as_slice-listed.ensures) h.apart) in
      let f = c.if-not-apart.true in
      cc),
)

pub returns-in-Some-clause-listed : goal.returns-in-Some-clause-listed
returns-in-Some-clause-listed c =
    subst (λ (cs : List CertInput). AreListed c.args.expanded.now.prog c.args.bounds.now cs c.in-Some.inputs) c.as_slice-listed.ensures (rw c.in-Some.is at c.in_ok-inputs.ensures)

pub returns-in-Some-clause-inputs : goal.returns-in-Some-clause-inputs
returns-in-Some-clause-inputs c = record {
  inputs = c.in-Some.inputs;
  listed = subst (λ (cs : List CertInput). AreListed c.args.expanded.now.prog c.args.bounds.now cs c.in-Some.inputs) c.as_slice-listed.ensures (rw c.in-Some.is at c.in_ok-inputs.ensures);
  apart = subst AreApart c.as_slice-listed.ensures (c.in_ok-apart.ensures.0 c.if-not-apart.false);
}

pub returns-in-None-clause-stops : goal.returns-in-None-clause-stops
returns-in-None-clause-stops c =
    let none = rw c.in-None.is at c.in_ok-inputs.ensures in (
      c.requires.values,
      λ h. none h.inputs (subst (λ (cs : List CertInput). AreListed c.args.expanded.now.prog c.args.bounds.now cs h.inputs) (sym c.as_slice-listed.ensures) h.listed),
    )
