use Rattle.sk_sym_state.proofs.Standing.{StateStands-keeps}
use Rattle.sk_sym_leaves.proofs.Operated.{operates}
use Rattle.sk_sym_leaves.proofs.operators.operate.Goals as goal

pub fail_where-requires-clause-stands : goal.fail_where-requires-clause-stands
fail_where-requires-clause-stands c = StateStands-keeps c.in_ok-made.ensures.keeps c.requires.stands

pub returns-clause-evaluates : goal.returns-clause-evaluates
returns-clause-evaluates c = operates c.requires.stands c.in_ok-made.ensures.keeps c.in_ok-fail_where.ensures.fails c.args.dag.now.bits c.args.width c.args.span c.args.op c.in_ok-width_is.ensures c.in_ok-made.ensures.operated
