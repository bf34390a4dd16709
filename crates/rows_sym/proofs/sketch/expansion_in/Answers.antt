use Rattle.rows_sym.proofs.Fillable.{askable}
use Rattle.rows_sym.proofs.sketch.expansion_in.Goals as goal

pub returns-in-Ok-clause-askable : goal.returns-in-Ok-clause-askable
returns-in-Ok-clause-askable c = askable _ _ c.in-Ok.it c.in-Ok.ensures.found
