use Rattle.sk_dag.proofs.EvalLemmas.{Keeps-bits}
use Rattle.sk_sym_operators.proofs.FitRows.{of_flipped}
use Rattle.sk_sym_operators.proofs.bitwise.others_negated.Goals as goal

pub returns-clause-operated : goal.returns-clause-operated
returns-clause-operated c = of_flipped (Keeps-bits c.in_ok-row.ensures.keeps) c.len.ensures c.in_ok-row.ensures.fitted c.in_ok-made.ensures.keeps c.in_ok-made.ensures.operated
