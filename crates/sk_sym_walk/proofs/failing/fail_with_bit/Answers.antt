use Rattle.sk_dag.proofs.EvalLemmas.{Keeps-trans}
use Rattle.sk_sym_walk.proofs.Conditions.{failed_kept}
use Rattle.sk_sym_walk.proofs.failing.fail_with_bit.Goals as goal

pub returns-in_err-c-clause-keeps : goal.returns-in_err-c-clause-keeps
returns-in_err-c-clause-keeps c = Keeps-trans c.in_ok-fail_here.ensures.keeps c.flag.ensures.keeps

pub returns-clause-keeps : goal.returns-clause-keeps
returns-clause-keeps c = Keeps-trans c.in_ok-fail_here.ensures.keeps c.in_ok-c.ensures.keeps

pub returns-clause-executes : goal.returns-clause-executes
returns-clause-executes c = failed_kept c.args.span c.in_ok-fail_here.ensures.executes c.in_ok-c.ensures.keeps
