use Rattle.sk_dag.proofs.EvalLemmas.{Keeps-trans}
use Rattle.sk_sym_state.proofs.Standing.{StateStands-keeps}
use Rattle.sk_sym_stores.proofs.Variables.{variable_stores}
use Rattle.sk_sym_stores.proofs.storing.store_variable.Goals as goal

pub fail_where-requires-clause-stands : goal.fail_where-requires-clause-stands
fail_where-requires-clause-stands c = StateStands-keeps c.in_ok-made.ensures.keeps c.requires.stands

pub returns-clause-stores : goal.returns-clause-stores
returns-clause-stores c = variable_stores c.args.span c.requires.stands c.in_ok-whole.ensures c.in_ok-made.ensures.keeps c.in_ok-made.ensures.replaced c.in_ok-fail_where.ensures.fails c.assign.ensures

pub returns-clause-keeps : goal.returns-clause-keeps
returns-clause-keeps c = Keeps-trans c.in_ok-made.ensures.keeps c.in_ok-fail_where.ensures.keeps
