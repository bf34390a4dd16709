use Rattle.sk_types_rules.proofs.ExampleLemmas.{kept_integer, kept_bit, kept_loose}
use Rattle.sk_types_rules.proofs.examples.strings_kept.Goals as goal

pub returns-clause-integer : goal.returns-clause-integer
returns-clause-integer c = kept_integer

pub returns-clause-bit : goal.returns-clause-bit
returns-clause-bit c = kept_bit

pub returns-clause-loose : goal.returns-clause-loose
returns-clause-loose c = kept_loose
