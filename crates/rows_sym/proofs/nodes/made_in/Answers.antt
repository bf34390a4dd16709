use Rattle.std.proofs.Common.{◌∙◌}
use Rattle.rows_sym.proofs.Inputs.{bits_kept}
use Rattle.rows_sym.proofs.nodes.made_in.Goals as goal

pub made_on-requires-clause-width : goal.made_on-requires-clause-width
made_on-requires-clause-width c = bits_kept c.in_ok-args.ensures.keeps ∙ c.requires.width
