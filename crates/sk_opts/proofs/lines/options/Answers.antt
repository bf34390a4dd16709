use Rattle.std.proofs.Common.{sym, ◌∙◌}
use Rattle.sk_opts.proofs.InRange.{line_in_ranges}
use Rattle.sk_opts.proofs.LineLaws.{found_is_line, none_is_line, only_line}
use Rattle.sk_opts.proofs.lines.options.Goals as goal

pub returns-in-Some-clause-found : goal.returns-in-Some-clause-found
returns-in-Some-clause-found c = found_is_line _ _ (sym c.in-Ok.ensures ∙ c.in-Some.is)

pub returns-in-Some-clause-only : goal.returns-in-Some-clause-only
returns-in-Some-clause-only c = only_line _ _ (sym c.in-Ok.ensures ∙ c.in-Some.is)

pub returns-in-None-clause-usage : goal.returns-in-None-clause-usage
returns-in-None-clause-usage c = none_is_line _ (sym c.in-Ok.ensures ∙ c.in-None.is)

pub returns-in-Some-clause-ranges : goal.returns-in-Some-clause-ranges
returns-in-Some-clause-ranges c = line_in_ranges _ c.in-Some.line (sym c.in-Ok.ensures ∙ c.in-Some.is)
