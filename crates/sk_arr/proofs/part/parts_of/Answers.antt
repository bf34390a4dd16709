use Rattle.sk_arr.proofs.Forms.{only_array}
use Rattle.sk_arr.proofs.part.parts_of.Goals as goal

pub unreachable-requires : goal.unreachable-requires
unreachable-requires c = only_array c.args.a.now c.requires c.in_default.not-Array
