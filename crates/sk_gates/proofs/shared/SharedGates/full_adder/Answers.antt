use Rattle.sk_gates.specs.Bits.{bit_true}
use Rattle.sk_gates.proofs.ExtensionLaws.{Continues-trans, Continues-adds, on_err}
use Rattle.sk_gates.proofs.BitLaws.{adder_row}
use Rattle.sk_gates.proofs.SharingLaws.{Builds-then, Builds-both}
use Rattle.sk_gates.proofs.shared.SharedGates.full_adder.Goals as goal

pub returns-clause-gate : goal.returns-clause-gate
returns-clause-gate c =
    Builds-then _ _ _ (Builds-both _ _ c.in_ok-either.ensures.gate c.in_ok-sum.ensures.gate) c.in_ok-carry.ensures.gate
    (λ v p q. adder_row _ (bit_true v c.in_ok-either.either) _ (bit_true v c.args.a) (bit_true v c.args.b) (bit_true v c.args.c) p.0 p.1 q)

pub returns-in_err-carry-clause-err : goal.returns-in_err-carry-clause-err
returns-in_err-carry-clause-err c = on_err _ (Continues-trans (Continues-adds c.in_ok-either.ensures.gate) (Continues-trans (Continues-adds c.in_ok-sum.ensures.gate) c.in_err-carry.ensures.err))
