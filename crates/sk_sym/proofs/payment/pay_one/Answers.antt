use Rattle.sk_dag.proofs.EvalLemmas.{Keeps-trans}
use Rattle.sk_sym_state.proofs.Standing.{StateStands-keeps}
use Rattle.sk_sym.proofs.Paid.{pays_one}
use Rattle.sk_sym.proofs.payment.pay_one.Goals as goal

pub pay-requires-clause-stands : goal.pay-requires-clause-stands
pay-requires-clause-stands c = StateStands-keeps c.in_ok-amount.ensures.keeps c.requires.stands

pub returns-clause-pays : goal.returns-clause-pays
returns-clause-pays c = pays_one c.args.payment.now c.in_ok-amount.amount c.requires.stands c.in_ok-amount.ensures.keeps c.in_ok-amount.ensures.value c.in_ok-pay.ensures.pays

pub returns-in_err-pay-clause-keeps : goal.returns-in_err-pay-clause-keeps
returns-in_err-pay-clause-keeps c = Keeps-trans c.in_ok-amount.ensures.keeps c.pay.ensures.keeps

pub returns-clause-keeps : goal.returns-clause-keeps
returns-clause-keeps c = Keeps-trans c.in_ok-amount.ensures.keeps c.in_ok-pay.ensures.keeps
