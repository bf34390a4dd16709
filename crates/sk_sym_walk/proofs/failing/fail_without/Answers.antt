use Rattle.sk_dag.proofs.EvalLemmas.{Keeps-trans}
use Rattle.sk_sym_walk.proofs.Conditions.{failed_evaluates}
use Rattle.sk_sym_walk.proofs.failing.fail_without.Goals as goal

pub returns-in_err-r-clause-keeps : goal.returns-in_err-r-clause-keeps
returns-in_err-r-clause-keeps c = Keeps-trans c.in_ok-fail_here.ensures.keeps c.absent.ensures.keeps

pub returns-clause-keeps : goal.returns-clause-keeps
returns-clause-keeps c = Keeps-trans c.in_ok-fail_here.ensures.keeps c.in_ok-r.ensures.keeps

pub returns-clause-evaluates : goal.returns-clause-evaluates
returns-clause-evaluates c = failed_evaluates c.args.span c.in_ok-fail_here.ensures.executes c.in_ok-r.ensures.keeps c.in_ok-r.ensures.stands
