use Rattle.sk_arr.proofs.Forms.{only_int}
use Rattle.sk_arr.proofs.part.word_of.Goals as goal

pub unreachable-requires : goal.unreachable-requires
unreachable-requires c = only_int c.args.a.now c.requires c.in_default.not-Int
