use Rattle.sk_arr.proofs.Forms.{only_bit}
use Rattle.sk_sym_operators.proofs.reading.bit_in.Goals as goal

pub unreachable-requires : goal.unreachable-requires
unreachable-requires c = only_bit c.args.a.now c.requires c.in_default.not-Bit
