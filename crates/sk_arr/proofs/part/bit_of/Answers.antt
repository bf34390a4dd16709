use Rattle.sk_arr.proofs.Forms.{only_bit}
use Rattle.sk_arr.proofs.part.bit_of.Goals as goal

pub unreachable-requires : goal.unreachable-requires
unreachable-requires c = only_bit c.args.a.now c.requires c.in_default.not-Bit
