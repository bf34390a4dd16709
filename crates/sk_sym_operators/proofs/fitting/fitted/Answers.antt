use Rattle.std.proofs.Common.{ap, ◌∙◌}
use Rattle.sk_sym_operators.specs.Fitting.{nodes_of}
use Rattle.sk_sym_operators.proofs.FitRows.{nodes_fitted}
use Rattle.sk_sym_operators.proofs.fitting.fitted.Goals as goal

pub returns-clause-fitted : goal.returns-clause-fitted
returns-clause-fitted c = nodes_fitted c.requires c.in_ok-no.ensures.keeps c.in_ok-no.ensures.there c.in_ok-no.ensures.value (c.in_ok-made.ensures ∙ ap (λ l. nodes_of c.in_ok-no.no l c.args.count) c.as_slice.ensures)
