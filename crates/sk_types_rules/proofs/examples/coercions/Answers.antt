use Rattle.sk_types_rules.proofs.ExampleLemmas.{widened_b, padded_one}
use Rattle.sk_types_rules.proofs.examples.coercions.Goals as goal

pub returns-clause-widened : goal.returns-clause-widened
returns-clause-widened c = widened_b

pub returns-clause-padded : goal.returns-clause-padded
returns-clause-padded c = padded_one
