use Rattle.sk_check.proofs.accepting.test_parts.Goals as goal

pub test_formulas-requires-clause-five : goal.test_formulas-requires-clause-five
test_formulas-requires-clause-five c = record {
  values = c.in_ok-text.ensures.values;
  inputs = c.in_ok-inputs.ensures.inputs;
  upper = c.in_ok-test_upper.ensures.upper;
  lower = c.in_ok-test_lower.ensures.lower;
  layout = c.in_ok-test_text.ensures.layout;
}

pub returns-clause-certifies : goal.returns-clause-certifies
returns-clause-certifies c = record {
  values = c.in_ok-text.ensures.values;
  inputs = c.in_ok-inputs.ensures.inputs;
  upper = c.in_ok-test_upper.ensures.upper;
  lower = c.in_ok-test_lower.ensures.lower;
  layout = c.in_ok-test_text.ensures.layout;
  formulas = c.in_ok-test_formulas.ensures.formulas;
}
