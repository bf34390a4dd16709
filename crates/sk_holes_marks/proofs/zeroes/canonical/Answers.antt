use Rattle.std.proofs.Common.{◌≡◌, ◌∙◌, ap}
use Rattle.sk_holes_marks.specs.Zeroed.{zeroed}
use Rattle.sk_holes_marks.proofs.ZeroLaws.{is_in_range}
use Rattle.sk_holes_marks.proofs.zeroes.canonical.Goals as goal

pub returns-clause-range : goal.returns-clause-range
returns-clause-range c = is_in_range c.args.expanded.now c.args.choice.now (record { values = c.in_ok-values.values }) c.as_slice.result.now c.requires.range (c.in_ok-values.ensures ∙ ap (zeroed c.as_slice.result.now 0) c.as_slice-2.ensures)
