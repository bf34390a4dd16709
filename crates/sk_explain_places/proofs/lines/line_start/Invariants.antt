use Rattle.sk_explain_places.specs.Lines.{IsLineStart}
use Rattle.sk_explain_places.proofs.lines.line_start.Given as goal

abbrev pub invariant-loop-at : goal.invariant-loop-at
invariant-loop-at l = IsLineStart l.text l.at l.start
