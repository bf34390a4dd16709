use Rattle.std.proofs.Common.{◌-◌, ◌≤◌, length}
use Rattle.sk_lexer.proofs.Fronts.{NotClosedBefore}
use Rattle.sk_lexer.proofs.piece.closed_len.Given as goal

abbrev pub invariant-loop-i : goal.invariant-loop-i
invariant-loop-i l = record { within : l.i ≤ length l.bytes; before : NotClosedBefore l.bytes l.i }

abbrev pub decreases-loop-i : goal.decreases-loop-i
decreases-loop-i l = length l.bytes - l.i
