use Rattle.sk_dag.proofs.EvalLemmas.{Keeps-trans}
use Rattle.sk_sym_steps.proofs.Costs.{paid_stands, pays}
use Rattle.sk_sym_steps.proofs.cost.pay.Goals as goal

pub fail_where-requires-clause-stands : goal.fail_where-requires-clause-stands
fail_where-requires-clause-stands c = paid_stands c.args.setting.now c.requires.stands (Keeps-trans c.in_ok-negative.ensures.keeps c.in_ok-cost.ensures.keeps) c.in_ok-cost.ensures.there

pub returns-clause-pays : goal.returns-clause-pays
returns-clause-pays c = pays c.args.amount c.requires.stands c.in_ok-negative.ensures.keeps c.in_ok-negative.ensures.value c.in_ok-cost.ensures.keeps c.in_ok-cost.ensures.there c.in_ok-cost.ensures.value c.in_ok-fail_where.ensures.fails c.args.span

pub returns-clause-keeps : goal.returns-clause-keeps
returns-clause-keeps c = Keeps-trans c.in_ok-negative.ensures.keeps (Keeps-trans c.in_ok-cost.ensures.keeps c.in_ok-fail_where.ensures.keeps)
