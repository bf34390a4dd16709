use Rattle.std.proofs.Common.{subst}
use Rattle.sk_dag.proofs.EvalLemmas.{Keeps-trans}
use Rattle.sk_sym_state.specs.Meaning.{ExecutesOn}
use Rattle.sk_sym_state.proofs.Standing.{StateStands-keeps}
use Rattle.sk_sym.specs.Paying.{AreAmounts, pays}
use Rattle.sk_sym.proofs.Paid.{pays_program, as_wide}
use Rattle.sk_sym.proofs.payment.pay_program.Goals as goal

pub pay_all-requires-clause-stands : goal.pay_all-requires-clause-stands
pay_all-requires-clause-stands c = StateStands-keeps c.in_ok-owed.ensures.keeps c.requires.stands

pub returns-clause-pays : goal.returns-clause-pays
returns-clause-pays c =
    let x = c.args.setting.now in
    let owed = c.in_ok-owed.ensures in
    let of_owed = subst (λ ps. ExecutesOn x c.payments.new.dag c.pay_all.new.dag c.args.state.now c.pay_all.new.state (AreAmounts x ps) (λ e. pays c.payments.new.dag.bits)) c.as_slice.ensures c.in_ok-pay_all.ensures.pays in
    let on = subst (λ w. ExecutesOn x c.payments.new.dag c.pay_all.new.dag c.args.state.now c.pay_all.new.state (AreAmounts x c.in_ok-owed.owed) (λ e. pays w)) (as_wide owed.keeps) of_owed in
    pays_program c.args.dag.now.bits c.requires.stands owed.keeps owed.pays on

pub returns-in_err-pay_all-clause-keeps : goal.returns-in_err-pay_all-clause-keeps
returns-in_err-pay_all-clause-keeps c = Keeps-trans c.in_ok-owed.ensures.keeps c.pay_all.ensures.keeps

pub returns-clause-keeps : goal.returns-clause-keeps
returns-clause-keeps c = Keeps-trans c.in_ok-owed.ensures.keeps c.in_ok-pay_all.ensures.keeps
