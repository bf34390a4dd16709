use Rattle.sk_sym_state.proofs.Standing.{StateStands-keeps}
use Rattle.sk_sym_leaves.proofs.Operated.{indexes}
use Rattle.sk_sym_leaves.proofs.elements.element.Goals as goal

pub fail_where-requires-clause-stands : goal.fail_where-requires-clause-stands
fail_where-requires-clause-stands c = StateStands-keeps c.in_ok-made.ensures.keeps c.requires.stands

pub returns-clause-evaluates : goal.returns-clause-evaluates
returns-clause-evaluates c = indexes c.requires.stands c.in_ok-made.ensures.keeps c.in_ok-fail_where.ensures.fails c.args.span c.in_ok-made.ensures.operated
