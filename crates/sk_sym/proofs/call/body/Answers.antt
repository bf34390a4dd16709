use Rattle.std.proofs.Common.{subst}
use Rattle.sk_dag.proofs.EvalLemmas.{Keeps-trans}
use Rattle.sk_sym_state.specs.Meaning.{Executes}
use Rattle.sk_sym_walk.specs.Walk.{exec_all_at}
use Rattle.sk_sym.proofs.Whole.{body_executes}
use Rattle.sk_sym.proofs.call.body.Goals as goal

pub returns-clause-executes : goal.returns-clause-executes
returns-clause-executes c =
    let a = c.args.activation.now in
    body_executes a c.in_ok-at.ensures c.requires.width c.in_ok-pay_first.ensures.pays
    (subst (λ ss. Executes a.setting c.pay_first.new.dag c.exec_all.new.dag c.pay_first.new.state c.exec_all.new.state (exec_all_at a c.in_ok-at.at ss)) c.as_slice.ensures c.in_ok-exec_all.ensures.executes)

pub returns-in_err-exec_all-clause-keeps : goal.returns-in_err-exec_all-clause-keeps
returns-in_err-exec_all-clause-keeps c = Keeps-trans c.in_ok-pay_first.ensures.keeps c.exec_all.ensures.keeps

pub returns-clause-keeps : goal.returns-clause-keeps
returns-clause-keeps c = Keeps-trans c.in_ok-pay_first.ensures.keeps c.in_ok-exec_all.ensures.keeps
