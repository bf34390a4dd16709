use Rattle.std.proofs.Common.{take}
use Rattle.sk_sym_state.specs.Meaning.{ExecutesOn}
use Rattle.sk_sym.specs.Paying.{AreAmounts, pays}
use Rattle.sk_sym.proofs.payment.pay_all.Given as goal

-- the payments so far are made
abbrev pub invariant-loop-payment : goal.invariant-loop-payment
invariant-loop-payment l = ExecutesOn l.setting l.fn.dag l.dag l.fn.state l.state (AreAmounts l.setting (take l.payment-index l.payments)) (λ e. pays l.fn.dag.bits)
