use Rattle.std.proofs.Common.{◌≡◌, ◌&&◌}
use Rattle.sk_gates.specs.Bits.{bit_true}
use Rattle.sk_gates.proofs.ExtensionLaws.{Adds-none}
use Rattle.sk_gates.proofs.bits.and_bits.Goals as goal

pub returns-in-Done-clause-gate : goal.returns-in-Done-clause-gate
returns-in-Done-clause-gate c = Adds-none _ (λ v. bit_true v c.in-Done.bit ≡ (bit_true v c.args.a && bit_true v c.args.b)) c.in-Done.ensures.value
