use Rattle.std.proofs.Common.{length, ◌≤◌}
use Rattle.row_files.proofs.sections.lines_before_mark.Given as goal

abbrev pub invariant-loop-first : goal.invariant-loop-first
invariant-loop-first l = length l.rest ≤ length l.bytes

abbrev pub decreases-loop-first : goal.decreases-loop-first
decreases-loop-first l = length l.rest
