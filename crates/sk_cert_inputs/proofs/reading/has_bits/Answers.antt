use Rattle.std.proofs.Common.{arith}
use Rattle.sk_cert_inputs.proofs.Bits.{has_bits}
use Rattle.sk_cert_inputs.proofs.reading.has_bits.Goals as goal

pub returns-then-bits-ge64 : goal.returns-then-bits-ge64
returns-then-bits-ge64 c = has_bits c.args.number c.args.bits (omega (arith, c.ranges.number.fits)) c.if-bits-ge64.true
