use Rattle.std.proofs.Common.{◌∙◌, ℕ, List, sym, subst}
use Rattle.sk_check_laws.specs.Parts.{is_layout}
use Rattle.sk_check.proofs.Rejecting.{one_layout}
use Rattle.sk_check.proofs.parts.test_text.Goals as goal

pub returns-then-not-same-clause-stops : goal.returns-then-not-same-clause-stops
returns-then-not-same-clause-stops c = (
  c.requires.values,
  c.requires.inputs,
  c.requires.upper,
  c.requires.lower,
  λ h. (
      let one = one_layout c.args.expanded.now c.args.bounds.now c.args.certificate.now c.args.certificate.now.choice c.args.certificate.now.text c.args.text.now h c.requires.text in
      let t = c.is-same.ensures.1 (one ∙ sym c.as_bytes-bytes.ensures) in
      let f = c.if-not-same.true in
      cc),
)

pub returns-clause-layout : goal.returns-clause-layout
returns-clause-layout c =
    let one = c.is-same.ensures.0 c.if-not-same.false ∙ c.as_bytes-bytes.ensures in
    subst (λ (text : List ℕ). is_layout c.args.expanded.now c.args.bounds.now c.args.certificate.now c.args.certificate.now.choice text) (sym one) c.requires.text
