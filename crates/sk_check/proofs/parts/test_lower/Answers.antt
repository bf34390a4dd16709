use Rattle.sk_check.proofs.parts.test_lower.Goals as goal

pub returns-then-not-refuted-clause-stops : goal.returns-then-not-refuted-clause-stops
returns-then-not-refuted-clause-stops c = (
  c.requires.values,
  c.requires.inputs,
  c.requires.upper,
  λ h. (
      let t = c.in_ok-refuted.ensures.1 h in
      let f = c.if-not-refuted.true in
      cc),
)

pub returns-clause-lower : goal.returns-clause-lower
returns-clause-lower c = c.in_ok-refuted.ensures.0 c.if-not-refuted.false
