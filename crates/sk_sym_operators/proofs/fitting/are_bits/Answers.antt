use Rattle.std.proofs.Common.{arith, refl}
use Rattle.sk_sym_operators.proofs.BitRows.{bits_more, bits_all}
use Rattle.sk_sym_operators.proofs.fitting.are_bits.Goals as goal

pub loop-s-preserved : goal.loop-s-preserved
loop-s-preserved c = record {
  bits = bits_more c.args.list.now c.loop-s.s-index c.s-item.result c.loop-s-test.true c.s-item.is c.loop-s.invariant.bits (c.if-not-is_bit.ensures refl);
}

pub returns : goal.returns
returns c = λ holds. bits_all c.args.list.now c.loop-s.s-index (omega arith) c.loop-s.invariant.bits
