use Rattle.std.proofs.Common.{sym, ◌∙◌}
use Rattle.sk_dag.proofs.EvalLemmas.{Keeps-bits}
use Rattle.sk_sym_operators.proofs.FitRows.{of_two, smaller_as}
use Rattle.sk_sym_operators.proofs.rows.on_uneven.Goals as goal

pub on_even-requires-clause-long : goal.on_even-requires-clause-long
on_even-requires-clause-long c = c.in_ok-first.ensures.fitted.long ∙ sym c.in_ok-second.ensures.fitted.long

pub returns-clause-operated : goal.returns-clause-operated
returns-clause-operated c = of_two (Keeps-bits c.in_ok-second.ensures.keeps ∙ Keeps-bits c.in_ok-first.ensures.keeps) (λ is. c.seen_length-count.ensures.sums is ∙ c.len.ensures) (λ not. smaller_as c.len.ensures c.len-2.ensures (c.seen_length-count.ensures.others not)) c.in_ok-first.ensures.fitted c.in_ok-second.ensures.keeps c.in_ok-second.ensures.fitted c.in_ok-made.ensures.keeps c.in_ok-made.ensures.operated
