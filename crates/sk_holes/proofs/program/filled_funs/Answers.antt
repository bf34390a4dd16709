-- it is said of each function whether it stands
use Rattle.std.proofs.Common.{[], length, ap, ◌∙◌}
use Rattle.sk_holes.proofs.ProgramLaws.{each_noted}
use Rattle.sk_holes.proofs.program.filled_funs.Goals as goal

pub funs-requires-clause-stands : goal.funs-requires-clause-stands
funs-requires-clause-stands c = ap length c.in_ok-stood.ensures.stands ∙ each_noted c.args.values.now c.args.ordinary [] 0 0 c.args.funs.now
