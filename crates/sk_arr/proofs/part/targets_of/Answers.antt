use Rattle.sk_arr.proofs.Forms.{only_reference}
use Rattle.sk_arr.proofs.part.targets_of.Goals as goal

pub unreachable-requires : goal.unreachable-requires
unreachable-requires c = only_reference c.args.a.now c.requires c.in_default.not-Reference
