use Rattle.std.proofs.Common.{◌∷◌, [], get_or, arith, subst}
use Rattle.std.proofs.lemmas.List.{take_all}
use Rattle.sk_dag.specs.Graph.{BoolSort}
use Rattle.sk_dag.proofs.EvalLemmas.{Keeps-trans}
use Rattle.sk_sym_choices.specs.declared.payment.Payment.{Payment}
use Rattle.sk_sym_state.specs.Meaning.{ExecutesOn}
use Rattle.sk_sym.specs.Paying.{AreAmounts, pays}
use Rattle.sk_sym.proofs.Paid.{pays_none, pays_more, as_wide}
use Rattle.sk_sym.proofs.payment.pay_all.Goals as goal

-- what stands past the end of a list of payments
abbrev nothing_owed : Payment
nothing_owed = record { span = record { from = 0; to = 0 }; site = 0; when = record { index = 0 } }

pub pay_one-requires-clause-stands : goal.pay_one-requires-clause-stands
pay_one-requires-clause-stands c = c.loop-payment.invariant.moves.stands

pub pay_one-requires-clause-when : goal.pay_one-requires-clause-when
pay_one-requires-clause-when c = c.loop-payment.invariant.moves.keeps.sorts _ BoolSort (c.requires.there.each c.loop-payment.payment-index nothing_owed c.loop-payment-test.true)

pub loop-payment-init : goal.loop-payment-init
loop-payment-init c = pays_none {x = c.args.setting.now} c.args.dag.now.bits c.requires.stands

pub loop-payment-preserved : goal.loop-payment-preserved
loop-payment-preserved c =
    let inv = c.loop-payment.invariant in
    let one = subst (λ w. ExecutesOn c.args.setting.now c.loop-payment.dag c.pay_one.new.dag c.loop-payment.state c.pay_one.new.state (AreAmounts c.args.setting.now (get_or c.args.payments.now c.loop-payment.payment-index nothing_owed ∷ [])) (λ e. pays w)) (as_wide inv.moves.keeps) c.in_ok-pay_one.ensures.pays in
    pays_more c.args.dag.now.bits c.args.payments.now c.loop-payment.payment-index nothing_owed c.loop-payment-test.true inv one

pub returns-in_err-pay_one-clause-keeps : goal.returns-in_err-pay_one-clause-keeps
returns-in_err-pay_one-clause-keeps c = Keeps-trans c.loop-payment.invariant.moves.keeps c.pay_one.ensures.keeps

pub returns-clause-keeps : goal.returns-clause-keeps
returns-clause-keeps c = c.loop-payment.invariant.moves.keeps

pub returns-clause-pays : goal.returns-clause-pays
returns-clause-pays c =
    let whole = take_all c.loop-payment.payment-index c.args.payments.now (omega arith) in
    subst (λ ps. ExecutesOn c.args.setting.now c.args.dag.now c.loop-payment.dag c.args.state.now c.loop-payment.state (AreAmounts c.args.setting.now ps) (λ e. pays c.args.dag.now.bits)) whole c.loop-payment.invariant
