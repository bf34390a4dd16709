use Rattle.sk_sym_walk.proofs.Sequences.{ok_more, evaluated_as, siteless_evaluated}
use Rattle.sk_sym_walk.proofs.Layers.{same_number, same_true, same_false, same_null, same_var, same_const}
use Rattle.sk_sym_walk.proofs.leaf.leaf.Goals as goal

pub returns-in-Number-clause-evaluated : goal.returns-in-Number-clause-evaluated
returns-in-Number-clause-evaluated c = ok_more c.number.result (λ r h. evaluated_as (same_number c.args.active.now c.args.span c.args.e.now c.in-Number.n c.in-Number.is) (siteless_evaluated h)) c.number.ensures.evaluates

pub returns-in-True-clause-evaluated : goal.returns-in-True-clause-evaluated
returns-in-True-clause-evaluated c = ok_more c.truth.result (λ r h. evaluated_as (same_true c.args.active.now c.args.span c.args.e.now c.in-True.is) (siteless_evaluated h)) c.truth.ensures.evaluates

pub returns-in-False-clause-evaluated : goal.returns-in-False-clause-evaluated
returns-in-False-clause-evaluated c = ok_more c.truth-in-False.result (λ r h. evaluated_as (same_false c.args.active.now c.args.span c.args.e.now c.in-False.is) (siteless_evaluated h)) c.truth-in-False.ensures.evaluates

pub returns-in-Null-clause-evaluated : goal.returns-in-Null-clause-evaluated
returns-in-Null-clause-evaluated c = evaluated_as (same_null c.args.active.now c.args.span c.args.e.now c.in-Null.is) (siteless_evaluated c.nothing.ensures.evaluates)

pub returns-in-Var-clause-evaluated : goal.returns-in-Var-clause-evaluated
returns-in-Var-clause-evaluated c = ok_more c.variable.result (λ r h. evaluated_as (same_var c.args.active.now c.args.span c.args.e.now c.in-Var.slot c.in-Var.name c.in-Var.is) (siteless_evaluated h)) c.variable.ensures.evaluates

pub returns-in-Const-clause-evaluated : goal.returns-in-Const-clause-evaluated
returns-in-Const-clause-evaluated c = ok_more c.constant.result (λ r h. evaluated_as (same_const c.args.active.now c.args.span c.args.e.now c.in-Const.id c.in-Const.is) (siteless_evaluated h)) c.constant.ensures.evaluates
