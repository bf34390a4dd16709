use Rattle.sk_dag.proofs.EvalLemmas.{Keeps-bits}
use Rattle.sk_sym_operators.proofs.FitRows.{of_row}
use Rattle.sk_sym_operators.proofs.rows.on_others.Goals as goal

pub returns-clause-operated : goal.returns-clause-operated
returns-clause-operated c = of_row (Keeps-bits c.in_ok-row.ensures.keeps) _ c.len.ensures c.in_ok-row.ensures.fitted c.in_ok-made.ensures.keeps c.in_ok-made.ensures.operated
