use Rattle.dimacs_text.proofs.ReadLemmas.{formulas_same, logs_same}
use Rattle.dimacs_text.proofs.law.readings_are_unique.Goals as goal

pub returns : goal.returns
returns c = record { formulas = formulas_same; logs = logs_same }
