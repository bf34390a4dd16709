use Rattle.std.proofs.Common.{sym, ◌∙◌, arith}
use Rattle.sk_parser_laws.proofs.Spans.{none_taken, some_taken}
use Rattle.sk_parser_exprs.proofs.token.span_between.Goals as goal

pub returns-then-count-eq0 : goal.returns-then-count-eq0
returns-then-count-eq0 c = none_taken _ _ (sym c.saturating_sub-count.ensures ∙ c.if-count-eq0.true)

pub returns : goal.returns
returns c = some_taken _ c.args.rest.now c.saturating_sub-count.result _ _ c.saturating_sub-count.ensures (omega (arith, c.if-count-eq0.false))
