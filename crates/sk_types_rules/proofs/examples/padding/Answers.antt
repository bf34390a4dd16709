use Rattle.sk_types_rules.proofs.ExampleLemmas.{one_fits, two_does_not}
use Rattle.sk_types_rules.proofs.examples.padding.Goals as goal

pub returns-clause-literal : goal.returns-clause-literal
returns-clause-literal c = one_fits

pub returns-clause-larger : goal.returns-clause-larger
returns-clause-larger c = two_does_not
