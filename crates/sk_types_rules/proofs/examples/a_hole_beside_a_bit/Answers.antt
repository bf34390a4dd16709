use Rattle.sk_types_rules.proofs.ExampleLemmas.{sum_is, meet_is, whole_is}
use Rattle.sk_types_rules.proofs.examples.a_hole_beside_a_bit.Goals as goal

pub returns-clause-sum : goal.returns-clause-sum
returns-clause-sum c = sum_is

pub returns-clause-meet : goal.returns-clause-meet
returns-clause-meet c = meet_is

pub returns-clause-whole : goal.returns-clause-whole
returns-clause-whole c = whole_is
