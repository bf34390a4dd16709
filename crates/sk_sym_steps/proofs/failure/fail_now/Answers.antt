use Rattle.sk_dag.specs.Graph.{BoolSort}
use Rattle.sk_sym_state.proofs.Standing.{StateStands-keeps}
use Rattle.sk_sym_steps.proofs.Failing.{fails_now}
use Rattle.sk_sym_steps.proofs.failure.fail_now.Goals as goal

pub fail_where-requires-clause-stands : goal.fail_where-requires-clause-stands
fail_where-requires-clause-stands c = StateStands-keeps c.in_ok-always.ensures.keeps c.requires.stands

pub returns-clause-there : goal.returns-clause-there
returns-clause-there c = c.in_ok-fail_where.ensures.keeps.sorts c.in_ok-always.always.index BoolSort c.in_ok-always.ensures.there

pub returns-clause-fails : goal.returns-clause-fails
returns-clause-fails c = fails_now c.requires.stands c.in_ok-always.ensures.keeps c.in_ok-always.ensures.value c.in_ok-fail_where.ensures.fails
