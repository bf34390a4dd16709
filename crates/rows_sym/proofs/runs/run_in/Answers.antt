use Rattle.std.proofs.Common.{◌∙◌}
use Rattle.rows_sym.proofs.Inputs.{bits_kept}
use Rattle.rows_sym.proofs.runs.run_in.Goals as goal

pub run_on-requires-clause-width : goal.run_on-requires-clause-width
run_on-requires-clause-width c = bits_kept c.in_ok-args.ensures.keeps ∙ c.requires.width
