use Rattle.std.proofs.Common.{ℕ, ◌≡◌, ◌≤◌, ◌<◌, false, drop}
use Rattle.sk_explain_places.specs.Lines.{ends_line}
use Rattle.sk_explain_places.proofs.lines.line_end.Given as goal

abbrev pub invariant-loop-at : goal.invariant-loop-at
invariant-loop-at l = (k : ℕ) → l.start ≤ k → k < l.at → ends_line (drop k l.text) ≡ false
