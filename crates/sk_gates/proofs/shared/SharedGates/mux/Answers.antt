use Rattle.std.proofs.Common.{◌≡◌}
use Rattle.sk_gates.specs.Bits.{bit_true, choose}
use Rattle.sk_gates.proofs.BitLaws.{choose_first, choose_second}
use Rattle.sk_gates.proofs.SharingLaws.{Builds-none}
use Rattle.sk_gates.proofs.shared.SharedGates.mux.Goals as goal

pub returns-then-known-clause-gate : goal.returns-then-known-clause-gate
returns-then-known-clause-gate c =
    Builds-none _ (λ v. bit_true v c.args.a ≡ choose (bit_true v c.args.c) (bit_true v c.args.a) (bit_true v c.args.b))
    (λ v m. choose_first v c.args.c c.in-Constant.known (bit_true v c.args.a) (bit_true v c.args.b) c.in-Constant.is c.if-known.true)

pub returns-else-known-clause-gate : goal.returns-else-known-clause-gate
returns-else-known-clause-gate c =
    Builds-none _ (λ v. bit_true v c.args.b ≡ choose (bit_true v c.args.c) (bit_true v c.args.a) (bit_true v c.args.b))
    (λ v m. choose_second v c.args.c c.in-Constant.known (bit_true v c.args.a) (bit_true v c.args.b) c.in-Constant.is c.if-known.false)
